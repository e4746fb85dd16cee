-- A list of units with no two equal.
use Rattle.std.specs.Prelude.{◌↔◌, List, Contains}
use Rattle.conf_types.specs.Lists.{AreDistinct}
use Rattle.plan_units.specs.declared.unit.Unit.{Unit as PlanUnit}

-- all of these, each once
pub record AreOnce (us all : List PlanUnit) : Type 0 where
  pub once : AreDistinct us
  pub same : (u : PlanUnit) → Contains us u ↔ Contains all u
