-- A datapath's plan that is kept, as contracts see it.
use Rattle.std.specs.Prelude.{◌≡◌, Bool, false, Option, Some, List, [], filter, IfSome}
use Rattle.std.specs.List.{AllByRecursion}
use Rattle.std.specs.Option.{option_map_or}
use Rattle.net_base.specs.Address.{IsSixBytes}
use Rattle.net_base.specs.declared.numbers.DpId.{DpId}
use Rattle.of_match.specs.declared.entry.Entry.{Entry}
use Rattle.of_match.specs.declared.entry.Key.{Key}
use Rattle.of_match.specs.FlowTables.{IsInKeyOrder}
use Rattle.stack_paths.specs.Stack.{Stack}
use Rattle.conf_types.specs.declared.datapath.Dp.{Dp}
use Rattle.conf_types.specs.declared.state.NeighRec.{NeighRec}
use Rattle.conf_types.specs.Configuration.{Configuration, dp_with}
use Rattle.conf_types.specs.State.{State, IsValidState}
use Rattle.conf_types.specs.Valid.{IsValid}
use Rattle.packet_way.specs.Known.{stack_of}
use Rattle.plan_units.specs.declared.unit.Unit.{Unit as PlanUnit}
use Rattle.plan_units.specs.Laws.{HasAddresses}
use Rattle.cold_start.specs.Cold.{cold_at, units_of}
use Rattle.plan_difference.specs.Difference.{AreAllTold}
use Rattle.conf_types.specs.declared.change.Change.{Change}
use Rattle.law_units.specs.Reached.{is_reached}
use Rattle.warm_plan.specs.Parts.{ArePartsOf}
use Rattle.warm_plan.specs.Places.{Places, places_of}

pub record Kept : Type 0 where
  pub dp : DpId
  -- the configuration and the state that were handed in last
  pub conf : Configuration
  pub state : State
  -- what the switch holds once it has done all that was taken
  pub sent : List Entry
  -- what it is to hold
  pub wanted : List Entry
  -- memory ran out in a call, so that `wanted` may be anything
  pub is_spent : Bool

-- the kept plan is the cold start, as long as memory didn't run out
pub record IsKept (k : Kept) : Type 0 where
  pub warm : k.is_spent ≡ false → k.wanted ≡ cold_at k.conf k.state k.dp
  pub sent : IsInKeyOrder k.sent
  pub wanted : IsInKeyOrder k.wanted

-- the units of the datapath that changes reach between two states, each once; where there is no such datapath,
-- none
abbrev pub reached_at : Configuration → State → State → DpId → List Change → List PlanUnit
reached_at conf old new id changes = option_map_or (λ d. filter (is_reached conf old new d changes) (units_of conf new d)) (dp_with conf.dps id) []

-- ---- what is kept beside it

-- the addresses of these neighbours that are known are Ethernet addresses
abbrev pub HaveAddresses : List NeighRec → Type 0
HaveAddresses neighbours = AllByRecursion (λ n. IfSome n.mac (λ mac. IsSixBytes mac.0)) neighbours

-- a valid configuration and state, of Ethernet addresses
pub record IsSound (conf : Configuration) (now : State) : Type 0 where
  pub valid : IsValid conf
  pub state : IsValidState conf now
  pub addresses : HasAddresses now

-- where the hosts of a state stand, and what they fill; of the datapath with an identifier
abbrev pub ArePlaces : Configuration → State → DpId → Places → Type 0
ArePlaces conf now id stood = (d : Dp) → dp_with conf.dps id ≡ Some d → stood ≡ places_of conf d now.hosts

-- the paths that are kept, where any are, are those of the state's stack
abbrev pub ArePaths : Configuration → State → Option Stack → Type 0
ArePaths conf now paths = IfSome paths (λ p. p ≡ stack_of conf now.ups)

-- the places of the hosts of the state, the keys of each unit's entries, and the paths
pub record IsIndexed (conf : Configuration) (now : State) (id : DpId) (wanted : List Entry) (stood : Places) (parts : PlanUnit → List Key) (paths : Option Stack) : Type 0 where
  pub sound : IsSound conf now
  pub stand : ArePlaces conf now id stood
  pub keyed : ArePartsOf parts wanted
  pub linked : ArePaths conf now paths

-- these keys tell where the entries that were made differ from what was sent
pub record IsWarm (k : Kept) (stood : Places) (parts : PlanUnit → List Key) (paths : Option Stack) (touched : List Key) (made : List Entry) : Type 0 where
  pub kept : IsKept k
  pub indexed : k.is_spent ≡ false → IsIndexed k.conf k.state k.dp k.wanted stood parts paths
  pub told : k.is_spent ≡ false → AreAllTold touched k.sent made
