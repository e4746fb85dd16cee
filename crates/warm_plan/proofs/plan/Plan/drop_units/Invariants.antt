use Rattle.std.proofs.Common.{◌≡◌, drop}
use Rattle.warm_plan.specs.Parts.{AreSameParts, keys_at, parts_without, without_units}
use Rattle.warm_plan.specs.Touched.{KeepTold}
use Rattle.warm_plan.proofs.plan.Plan.drop_units.Given as goal

-- without those that are left, it is without all
abbrev pub invariant-loop-unit : goal.invariant-loop-unit
invariant-loop-unit l = record {
  parts : AreSameParts (parts_without (keys_at l.self.parts) (drop l.unit-index l.gone)) (parts_without (keys_at l.fn.self.parts) l.gone);
  wanted : without_units (keys_at l.self.parts) l.self.wanted (drop l.unit-index l.gone) ≡ without_units (keys_at l.fn.self.parts) l.fn.self.wanted l.gone;
  told : KeepTold (l.fn.self.touched).keys l.fn.self.wanted (l.self.touched).keys l.self.wanted;
  paths : l.self.paths ≡ l.fn.self.paths;
}
