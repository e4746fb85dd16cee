use Rattle.std.proofs.Common.{◌≡◌, ◌∙◌, None, sym, ap}
use Rattle.std.specs.List.{position}
use Rattle.std.specs.Option.{option_map}
use Rattle.neighbour_resolve.specs.Due.{is_due, said_of}
use Rattle.neighbour_resolve.proofs.Places.{none_left, not_found}
use Rattle.neighbour_resolve.proofs.table.take_due.Goals as goal

pub returns-in_err-at-clause-said : goal.returns-in_err-at-clause-said
returns-in_err-at-clause-said c =
    let place : None ≡ position (is_due c.args.now.0) c.args.neighbours.now.items = sym c.in_err-at.was ∙ c.due_place.ensures.place ∙ ap (position (is_due c.args.now.0)) c.as_slice.ensures.value in
    c.from_residual.ensures ∙ sym (ap (option_map (said_of c.args.conf.now c.args.now.0)) (not_found (is_due c.args.now.0) c.args.neighbours.now.items place))

pub returns-in_err-at-clause-list : goal.returns-in_err-at-clause-list
returns-in_err-at-clause-list c =
    let place : None ≡ position (is_due c.args.now.0) c.args.neighbours.now.items = sym c.in_err-at.was ∙ c.due_place.ensures.place ∙ ap (position (is_due c.args.now.0)) c.as_slice.ensures.value in
    sym (none_left c.args.conf.now c.args.now.0 c.args.neighbours.now.items place)
