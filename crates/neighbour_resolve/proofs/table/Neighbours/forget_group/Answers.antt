use Rattle.std.proofs.Common.{not, ◌==◌}
use Rattle.conf_types.specs.declared.state.NeighRec.{NeighRec}
use Rattle.neighbour_resolve.specs.Table.{off_group}
use Rattle.neighbour_resolve.proofs.Keys.{filter_some, some_table}
use Rattle.neighbour_resolve.proofs.table.Neighbours.forget_group.Goals as goal

pub invariant_of-self : goal.invariant_of-self
invariant_of-self c =
    let ns = c.self.inside.neighbours.items in
    (rw c.leave_group.ensures.list (some_table c.self.inside.limit (off_group c.args.group ns) ns (filter_some (λ (n : NeighRec). not (n.group.0 == c.args.group.0)) ns) c.self.invariant.0), rw c.leave_group.ensures.capacity c.self.invariant.1, c.none-self-inside.ensures c.leave_group.new.neighbours.items)
