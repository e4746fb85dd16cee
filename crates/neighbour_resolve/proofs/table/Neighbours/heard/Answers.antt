use Rattle.std.proofs.Common.{false, Some, arith}
use Rattle.conf_types.specs.declared.state.NeighRec.{NeighRec}
use Rattle.neighbour_resolve.specs.Table.{stays}
use Rattle.neighbour_resolve.proofs.Keys.{told_by}
use Rattle.neighbour_resolve.proofs.table.Neighbours.heard.Goals as goal

pub invariant_of-self : goal.invariant_of-self
invariant_of-self c =
    let told : NeighRec = record { group = c.args.group; vid = c.args.vid; ip = c.args.ip; mac = Some c.args.mac; tries = 0; due = record { 0 = c.saturating_add.result } } in (
      told_by (stays false) told c.self.inside.limit c.self.inside.neighbours.items c.tell.new.neighbours.items c.tell.result c.tell.ensures.outcome c.tell.ensures.list c.self.invariant.0,
      omega (arith, c.self.invariant.1, c.tell.ensures.capacity),
      c.none-self-inside.ensures c.tell.new.neighbours.items,
    )
