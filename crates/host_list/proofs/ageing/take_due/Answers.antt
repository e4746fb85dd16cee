use Rattle.std.proofs.Common.{sym, ◌∙◌}
use Rattle.conf_types.specs.State.{is_to_forget}
use Rattle.host_list.proofs.Due.{none_due}
use Rattle.host_list.proofs.Leaving.{no_first}
use Rattle.host_list.proofs.ageing.take_due.Goals as goal

pub returns-then-not-any_due_from-clause-found : goal.returns-then-not-any_due_from-clause-found
returns-then-not-any_due_from-clause-found c =
    let off = sym c.any_due_from.ensures ∙ c.if-not-any_due_from.true in
    sym (no_first (is_to_forget c.args.conf.now c.args.now.0) c.args.order.now (none_due c.args.conf.now c.args.now.0 c.shelves.result.now off c.args.order.now c.shelves.ensures.each)).0

pub returns-then-not-any_due_from-clause-left : goal.returns-then-not-any_due_from-clause-left
returns-then-not-any_due_from-clause-left c =
    let off = sym c.any_due_from.ensures ∙ c.if-not-any_due_from.true in
    sym (no_first (is_to_forget c.args.conf.now c.args.now.0) c.args.order.now (none_due c.args.conf.now c.args.now.0 c.shelves.result.now off c.args.order.now c.shelves.ensures.each)).1
