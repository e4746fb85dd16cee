use Rattle.std.proofs.Common.{◌≡◌, ◌*◌, take, drop}
use Rattle.packet_way.specs.Present.{state_of}
use Rattle.cold_start.specs.Counts.{RisesAtMost, RisesAtLeast}
use Rattle.warm_plan.specs.Parts.{AreSameParts, keys_at, parts_with, with_units}
use Rattle.warm_plan.specs.Touched.{KeepTold}
use Rattle.warm_plan.proofs.plan.Plan.make.Given as goal

-- the entries and the units of work of those so far; the parts with those that are left are those with all
abbrev pub invariant-loop-unit : goal.invariant-loop-unit
invariant-loop-unit g l = record {
  parts : AreSameParts (parts_with l.conf (state_of l.fn.now) l.dp (keys_at l.self.parts) (drop l.unit-index l.made)) (parts_with l.conf (state_of l.fn.now) l.dp (keys_at l.fn.self.parts) l.made);
  wanted : l.self.wanted ≡ with_units l.conf (state_of l.fn.now) l.dp l.fn.self.wanted (take l.unit-index l.made);
  told : KeepTold (l.fn.self.touched).keys l.fn.self.wanted (l.self.touched).keys l.self.wanted;
  most : RisesAtMost (3 * l.unit-index) (g.T.Tally.count l.fn.units) (g.T.Tally.count l.units);
  least : RisesAtLeast l.unit-index (g.T.Tally.count l.fn.units) (g.T.Tally.count l.units);
}
