use Rattle.std.proofs.Common.{◌≡◌, ◌++◌, ◌*◌, take}
use Rattle.std.specs.List.{flat_map}
use Rattle.cold_start.specs.Members.{port_by}
use Rattle.cold_start.specs.Counts.{RisesAtMost, RisesAtLeast}
use Rattle.cold_start.proofs.plan.Making.push_ports.Given as goal

-- the entries and the units of those so far
abbrev pub invariant-loop-port : goal.invariant-loop-port
invariant-loop-port g l = record {
  entries : l.all ≡ l.fn.all ++ flat_map (port_by l.self.conf.now l.self.dp.now l.self.learned.now.hosts.now) (take l.port-index l.port-items);
  most : RisesAtMost (3 * l.port-index) (g.T.Tally.count l.fn.units) (g.T.Tally.count l.units);
  least : RisesAtLeast l.port-index (g.T.Tally.count l.fn.units) (g.T.Tally.count l.units);
}
