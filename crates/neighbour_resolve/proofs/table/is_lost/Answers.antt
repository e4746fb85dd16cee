use Rattle.std.proofs.Common.{◌∙◌, false, sym, ap}
use Rattle.std.specs.Option.{option_map_or}
use Rattle.neighbour_resolve.specs.Due.{is_due, is_spent}
use Rattle.neighbour_resolve.proofs.Places.{found, not_found}
use Rattle.neighbour_resolve.proofs.table.is_lost.Goals as goal

pub returns-in-Some : goal.returns-in-Some
returns-in-Some c =
    let first = found (is_due c.args.now.0) c.args.neighbours.now c.in-Some.at c.index-neighbours-at.result c.in-Some.ensures.place c.in-Some.ensures.within c.index-neighbours-at.is in
    c.is_spent.ensures ∙ sym (ap (λ o. option_map_or is_spent o false) first)

pub returns-in-None : goal.returns-in-None
returns-in-None c = sym (ap (λ o. option_map_or is_spent o false) (not_found (is_due c.args.now.0) c.args.neighbours.now c.in-None.ensures.place))
