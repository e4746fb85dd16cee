-- What is kept of units, as one of them changes.
use Rattle.std.specs.Prelude.{if◌then◌else◌}
use Rattle.std.specs.Ordering.{is_eq}
use Rattle.plan_units.specs.declared.unit.Unit.{Unit as PlanUnit}
use Rattle.plan_units.specs.Order.{unit_cmp}

-- with this kept of a unit
abbrev pub put : {A : Type 0} → (PlanUnit → A) → PlanUnit → A → PlanUnit → A
put kept u it w = if is_eq (unit_cmp u w) then it else kept w
