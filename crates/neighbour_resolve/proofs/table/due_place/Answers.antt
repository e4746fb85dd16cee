use Rattle.std.proofs.Common.{ap, sym, ◌∙◌, arith}
use Rattle.neighbour_resolve.specs.Due.{is_due}
use Rattle.neighbour_resolve.proofs.Places.{found_first, none_first}
use Rattle.neighbour_resolve.proofs.table.due_place.Goals as goal

pub returns-then-is_due-clause-place : goal.returns-then-is_due-clause-place
returns-then-is_due-clause-place c =
    found_first (is_due c.args.now.0) c.args.neighbours.now c.loop-at.at c.index-neighbours-at.result c.loop-at.invariant (omega arith)
    (ap (is_due c.args.now.0) (sym c.index-neighbours-at.is) ∙ sym c.is_due.ensures ∙ c.if-is_due.true)

pub returns-clause-place : goal.returns-clause-place
returns-clause-place c = none_first (is_due c.args.now.0) c.args.neighbours.now c.loop-at.at (omega arith) c.loop-at.invariant
