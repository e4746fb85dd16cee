-- The keys of each unit's entries, as they are kept; entries that are taken out and added by units.
use Rattle.std.specs.Prelude.{◌≡◌, ◌∷◌, true, Some, List, [], map, unwrap_or, Contains}
use Rattle.std.specs.List.{AllByRecursion}
use Rattle.std.specs.BTreeMap.{BTreeMap, get}
use Rattle.of_match.specs.declared.entry.Command.TheVariants.{Add, DeleteStrict}
use Rattle.of_match.specs.declared.entry.Entry.{Entry}
use Rattle.of_match.specs.declared.entry.Key.{Key}
use Rattle.of_match.specs.Settled.{after_all}
use Rattle.conf_types.specs.declared.datapath.Dp.{Dp}
use Rattle.conf_types.specs.Configuration.{Configuration}
use Rattle.conf_types.specs.Lists.{AreDistinct}
use Rattle.conf_types.specs.State.{State}
use Rattle.plan_units.specs.declared.unit.Unit.{Unit as PlanUnit}
use Rattle.plan_units.specs.Order.{unit_cmp}
use Rattle.plan_units.specs.Units.{entries}
use Rattle.cold_start.specs.Cold.{units_of}
use Rattle.conf_types.specs.declared.change.Change.{Change}
use Rattle.law_units.specs.Owner.{owner}
use Rattle.law_units.specs.Reached.{is_reached}
use Rattle.warm_plan.specs.Units.{put}

abbrev pub keys_of : List Entry → List Key
keys_of es = map (λ e. e.key) es

-- the keys that are kept of a unit; none where it isn't there
abbrev pub keys_at : BTreeMap PlanUnit (List Key) → PlanUnit → List Key
keys_at parts u = unwrap_or (get unit_cmp parts u) []

-- each key belongs to the unit of which it is kept, and the key of each entry is kept of its unit
pub record ArePartsOf (parts : PlanUnit → List Key) (tables : List Entry) : Type 0 where
  pub own : (u : PlanUnit) → AllByRecursion (λ k. owner k ≡ Some u) (parts u)
  pub whole : (e : Entry) → Contains tables e → (u : PlanUnit) → owner e.key ≡ Some u → Contains (parts u) e.key

-- the same keys of each unit
abbrev pub AreSameParts : (PlanUnit → List Key) → (PlanUnit → List Key) → Type 0
AreSameParts parts others = (u : PlanUnit) → parts u ≡ others u

-- ---- taken out and added

-- with none of these units
abbrev pub parts_without : (PlanUnit → List Key) → List PlanUnit → PlanUnit → List Key
parts_without parts [] = parts
parts_without parts (u ∷ us) = parts_without (put parts u []) us

-- the tables without the entries that have these keys
abbrev pub without : List Entry → List Key → List Entry
without tables keys = after_all tables (map DeleteStrict keys)

-- without the entries of these units, unit by unit
abbrev pub without_units : (PlanUnit → List Key) → List Entry → List PlanUnit → List Entry
without_units parts tables [] = tables
without_units parts tables (u ∷ us) = without_units (put parts u []) (without tables (parts u)) us

module _ (conf : Configuration) (now : State) (d : Dp) where
  -- with the keys that these units have
  abbrev pub parts_with : (PlanUnit → List Key) → List PlanUnit → PlanUnit → List Key
  parts_with parts [] = parts
  parts_with parts (u ∷ us) = parts_with (put parts u (keys_of (entries conf now d u))) us

  -- the tables with the entries of these units, unit by unit
  abbrev pub with_units : List Entry → List PlanUnit → List Entry
  with_units tables [] = tables
  with_units tables (u ∷ us) = with_units (after_all tables (map Add (entries conf now d u))) us

-- ---- what changes reach is made again

-- what changes from the one state to the other reach
module _ (conf : Configuration) (old new : State) (d : Dp) (changes : List Change) where
  -- the units of the datapath in the new state that are reached, each once
  pub record AreReached (us : List PlanUnit) : Type 0 where
    pub once : AreDistinct us
    pub reached : AllByRecursion (λ u. is_reached conf old new d changes u ≡ true) us
    pub listed : AllByRecursion (Contains (units_of conf new d)) us
    pub whole : (u : PlanUnit) → Contains (units_of conf new d) u → is_reached conf old new d changes u ≡ true → Contains us u

  -- those that it had in the old state, and at most others that are reached
  pub record AreTakenOut (us : List PlanUnit) : Type 0 where
    pub reached : AllByRecursion (λ u. is_reached conf old new d changes u ≡ true) us
    pub whole : (u : PlanUnit) → Contains (units_of conf old d) u → is_reached conf old new d changes u ≡ true → Contains us u
