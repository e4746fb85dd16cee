use Rattle.std.proofs.Common.{sym, ◌∙◌}
use Rattle.conf_types.specs.State.{is_to_forget}
use Rattle.host_list.specs.Addresses.{Entry}
use Rattle.host_list.proofs.Due.{none_due}
use Rattle.host_list.proofs.Leaving.{none_left, place_is_entry}
use Rattle.host_list.proofs.ageing.leave_any_due.Goals as goal

pub returns-else-any_due_from : goal.returns-else-any_due_from
returns-else-any_due_from c =
    let test = is_to_forget c.args.conf.now c.args.now.0 in
    let order = c.args.order.now in
    let off = sym c.any_due_from.ensures ∙ c.if-any_due_from.false in
    sym (none_left (λ (e : Entry). test e.1) order (sym (place_is_entry test order) ∙ none_due c.args.conf.now c.args.now.0 c.shelves.result.now off order c.shelves.ensures.each))
