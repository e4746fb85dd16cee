use Rattle.neighbour_resolve.specs.Due.{after_due}
use Rattle.neighbour_resolve.proofs.Keys.{due_some, some_table}
use Rattle.neighbour_resolve.proofs.table.Neighbours.due.Goals as goal

pub invariant_of-self : goal.invariant_of-self
invariant_of-self c =
    let ns = c.self.inside.neighbours.items in
    (rw c.take_due.ensures.list (some_table c.self.inside.limit (after_due c.args.conf.now c.args.now.0 ns) ns (due_some c.args.conf.now c.args.now.0 ns) c.self.invariant.0), rw c.take_due.ensures.capacity c.self.invariant.1, c.take_due.ensures.passed)
