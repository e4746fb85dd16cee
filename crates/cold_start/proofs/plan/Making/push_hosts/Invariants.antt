use Rattle.std.proofs.Common.{◌≡◌, ◌++◌, ◌*◌, take}
use Rattle.std.specs.List.{flat_map}
use Rattle.cold_start.specs.Members.{host_by}
use Rattle.cold_start.specs.Counts.{RisesAtMost, RisesAtLeast}
use Rattle.cold_start.proofs.plan.Making.push_hosts.Given as goal

-- the entries and the units of those so far
abbrev pub invariant-loop-host : goal.invariant-loop-host
invariant-loop-host g l = record {
  entries : l.all ≡ l.fn.all ++ flat_map (host_by l.self.conf.now l.self.dp.now l.self.learned.now.moment.0 l.self.paths.now) (take l.host-index l.hosts);
  most : RisesAtMost (3 * l.host-index) (g.T.Tally.count l.fn.units) (g.T.Tally.count l.units);
  least : RisesAtLeast l.host-index (g.T.Tally.count l.fn.units) (g.T.Tally.count l.units);
}
