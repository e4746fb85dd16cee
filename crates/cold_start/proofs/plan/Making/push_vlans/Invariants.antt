use Rattle.std.proofs.Common.{◌≡◌, ◌++◌, ◌*◌, take}
use Rattle.std.specs.List.{flat_map}
use Rattle.cold_start.specs.Members.{vlan_by}
use Rattle.cold_start.specs.Counts.{RisesAtMost, RisesAtLeast}
use Rattle.cold_start.proofs.plan.Making.push_vlans.Given as goal

-- the entries and the units of those so far
abbrev pub invariant-loop-vlan : goal.invariant-loop-vlan
invariant-loop-vlan g l = record {
  entries : l.all ≡ l.fn.all ++ flat_map (vlan_by l.self.conf.now l.self.dp.now l.self.paths.now) (take l.vlan-index l.vlans);
  most : RisesAtMost (3 * l.vlan-index) (g.T.Tally.count l.fn.units) (g.T.Tally.count l.units);
  least : RisesAtLeast l.vlan-index (g.T.Tally.count l.fn.units) (g.T.Tally.count l.units);
}
