-- Actions and instructions that a switch accepts (OpenFlow 1.3, 5.9, 7.2.4 and 7.2.5): each number fits
-- its bytes.
use Rattle.std.specs.Prelude.{◌≡◌, ◌^◌, ◌<◌, List, [], ◌∷◌, length}
use Rattle.std.specs.List.{AllByRecursion}
use Rattle.net_base.specs.FieldId.{all_ones}
use Rattle.net_base.specs.WellFormed.{Fits}
use Rattle.of_match.specs.declared.action.Action.{Action}
use Rattle.of_match.specs.declared.action.Action.TheVariants.{Output, PushVlan, PopVlan, DecTtl, Set}
use Rattle.of_match.specs.declared.action.Instr.{Instr}
use Rattle.of_match.specs.declared.action.Instr.TheVariants.{Goto, Apply}

-- the field that is set has no mask
abbrev pub IsAction : Action → Type 0
IsAction (Output port max_len) = (port < 2 ^ 32) × (max_len < 2 ^ 16)
IsAction (PushVlan eth_type) = eth_type < 2 ^ 16
IsAction PopVlan = Unit {0}
IsAction DecTtl = Unit {0}
IsAction (Set f) = Fits f × (f.mask ≡ all_ones f.id)

-- at least one action
pub record AreApplied (actions : List Action) : Type 0 where
  pub each : AllByRecursion IsAction actions
  pub some : 0 < length actions

-- at most one APPLY_ACTIONS, and behind it at most one GOTO_TABLE
abbrev pub AreInstrs : List Instr → Type 0
AreInstrs [] = Unit {0}
AreInstrs (Goto table ∷ []) = table < 2 ^ 8
AreInstrs (Goto table ∷ i ∷ more) = ⊥
AreInstrs (Apply actions ∷ []) = AreApplied actions
AreInstrs (Apply actions ∷ Goto table ∷ []) = AreApplied actions × (table < 2 ^ 8)
AreInstrs (Apply actions ∷ Goto table ∷ i ∷ more) = ⊥
AreInstrs (Apply actions ∷ Apply others ∷ more) = ⊥
