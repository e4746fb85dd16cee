use Rattle.std.proofs.Common.{true, arith}
use Rattle.neighbour_resolve.specs.Table.{stays, unresolved}
use Rattle.neighbour_resolve.proofs.Keys.{told_by}
use Rattle.neighbour_resolve.proofs.table.Neighbours.want.Goals as goal

pub invariant_of-self : goal.invariant_of-self
invariant_of-self c = (
  told_by (stays true) (unresolved c.args.group c.args.vid c.args.ip c.args.now) c.self.inside.limit c.self.inside.neighbours.items c.tell.new.neighbours.items c.tell.result c.tell.ensures.outcome c.tell.ensures.list c.self.invariant.0,
  omega (arith, c.self.invariant.1, c.tell.ensures.capacity),
  c.none-self-inside.ensures c.tell.new.neighbours.items,
)
