-- Groups of datapaths: those that stack links of the configuration join, whether or not their ends
-- are enabled. The hosts of a group are one table.
use Rattle.std.specs.Prelude.{◌≡◌, ◌≤◌, ◌==◌, ◌&&◌, ◌||◌, Bool, false, ℕ, zero, suc, Some, List, [], ◌∷◌, Contains, map, filter, length, nat_lt, ◌<◌, slice_index_or, if◌then◌else◌}
use Rattle.std.specs.List.{list_any}
use Rattle.std.specs.Option.{option_map_or}
use Rattle.net_base.specs.declared.numbers.DpId.{DpId}
use Rattle.conf_types.specs.declared.datapath.Dp.{Dp}
use Rattle.conf_types.specs.declared.datapath.Port.{Port}
use Rattle.conf_types.specs.declared.datapath.StackEnd.{StackEnd}
use Rattle.conf_types.specs.Configuration.{Configuration}

-- a datapath of the configuration has this identifier
pub record IsDp (conf : Configuration) (id : DpId) : Type 0 where
  pub dp : Dp
  pub here : Contains conf.dps dp
  pub id_is : dp.id ≡ id

-- an interface of datapath a is an end of a stack link whose far end lies on datapath b
pub record IsLinked (conf : Configuration) (a b : DpId) : Type 0 where
  pub dp : Dp
  pub port : Port
  pub far : StackEnd
  pub here : Contains conf.dps dp
  pub id_is : dp.id ≡ a
  pub has : Contains dp.ports port
  pub leads : port.stack ≡ Some far
  pub far_is : far.dp ≡ b

-- a walk of n stack links from datapath a to datapath b
abbrev pub Walk : Configuration → DpId → DpId → ℕ → Type 0
Walk conf a b zero = IsDp conf a × (a ≡ b)
Walk conf a b (suc n) = (c : DpId) × IsLinked conf a c × Walk conf c b n

-- some walk leads from a to b: they are in one group
abbrev pub IsJoined : Configuration → DpId → DpId → Type 0
IsJoined conf a b = (n : ℕ) × Walk conf a b n

-- the number of a datapath's group: the least identifier in it
pub record IsGroup (conf : Configuration) (dp group : DpId) : Type 0 where
  pub joined : IsJoined conf dp group
  pub least : (other : DpId) → IsJoined conf dp other → group.0 ≤ other.0

-- datapaths alone, as a configuration
abbrev pub of_dps : List Dp → Configuration
of_dps dps = record { dps = dps; vlans = []; acls = []; routers = [] }

-- ---- the number as a function: the least identifier among those that are reached in as many steps
-- as there are datapaths

-- an interface of the datapath is an end of a stack link whose far end lies on this one
abbrev pub leads_to : Dp → DpId → Bool
leads_to d b = list_any (λ p. option_map_or (λ far. far.dp.0 == b.0) p.stack false) d.ports

-- at most n stack links lead from a to b
abbrev pub is_reached : Configuration → DpId → ℕ → DpId → Bool
is_reached conf a zero b = a.0 == b.0
is_reached conf a (suc n) b = is_reached conf a n b || list_any (λ d. is_reached conf a n d.id && leads_to d b) conf.dps

-- the least of one number and more
abbrev pub least_id : DpId → List DpId → DpId
least_id a [] = a
least_id a (b ∷ more) = let least = least_id a more in if nat_lt b.0 least.0 then b else least

abbrev pub group_of : Configuration → DpId → DpId
group_of conf dp = least_id dp (map (λ d. d.id) (filter (λ d. is_reached conf dp (length conf.dps) d.id) conf.dps))

-- ---- the numbers by the places of the datapaths

abbrev pub AreGroups : List Dp → List DpId → Type 0
AreGroups dps groups = (k : ℕ) (d : Dp) (g : DpId) → k < length dps → slice_index_or groups k g ≡ group_of (of_dps dps) (slice_index_or dps k d).id
