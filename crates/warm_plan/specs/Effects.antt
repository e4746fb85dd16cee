-- What a change reaches, worked out once, and the units that this is.
use Rattle.std.specs.Prelude.{ℕ, ◌==◌, ◌&&◌, ◌||◌, Bool, true, false, Option, is_some, List, [], ◌∷◌, ◌++◌, map, filter, if◌then◌else◌}
use Rattle.std.specs.List.{list_any, flat_map}
use Rattle.std.specs.Option.{option_map_or}
use Rattle.net_base.specs.declared.address.Mac.{Mac}
use Rattle.net_base.specs.declared.numbers.DpId.{DpId}
use Rattle.conf_types.specs.declared.datapath.Dp.{Dp}
use Rattle.conf_types.specs.declared.state.HostRec.{HostRec}
use Rattle.conf_types.specs.Changes.{host_by}
use Rattle.conf_types.specs.Configuration.{Configuration, port_with, port_at}
use Rattle.conf_types.specs.Groups.{group_of}
use Rattle.conf_types.specs.Lists.{is_among, is_same}
use Rattle.conf_types.specs.Membership.{is_stack, is_edge_member}
use Rattle.conf_types.specs.Routing.{routing_set}
use Rattle.conf_types.specs.State.{is_table_full}
use Rattle.plan_units.specs.declared.unit.Unit.{Unit as PlanUnit}
use Rattle.plan_units.specs.declared.unit.Unit.TheVariants as unit
use Rattle.conf_types.specs.declared.change.Change.{Change}
use Rattle.conf_types.specs.declared.change.Change.TheVariants as change
use Rattle.law_units.specs.Reached.{is_other}
use Rattle.warm_plan.specs.declared.effect.Effect.{Effect}
use Rattle.warm_plan.specs.declared.effect.Effect.TheVariants.{Nothing, Host, Stack, Routes}
use Rattle.warm_plan.specs.declared.effect.HostEffect.{HostEffect}
use Rattle.warm_plan.specs.Places.{Places, port_in, is_full_in}

-- ---- of a change

abbrev pub if_linked : Bool → Effect
if_linked linked = if linked then Stack else Nothing

-- by what was kept of the hosts that were, and the hosts that are
module _ (conf : Configuration) (d : Dp) (old : Places) (new : List HostRec) where
  abbrev pub host_effect : DpId → ℕ → Mac → HostEffect
  host_effect group vid mac = record {
    vid = vid;
    mac = mac;
    is_ours = group.0 == (group_of conf d.id).0;
    stood = old.port (unit.Host vid mac);
    stands = port_in conf d new vid mac;
    turns_vlan = is_other (old.is_full (unit.Vlan vid)) (is_full_in conf d new vid);
    turns_table = is_other old.is_table_full (is_table_full new);
  }

  abbrev pub effect_of : Change → Effect
  effect_of (change.Host group vid mac) = Host (host_effect group vid mac)
  effect_of (change.Port dp port) = if_linked ((group_of conf dp).0 == (group_of conf d.id).0 && option_map_or is_stack (port_at conf dp port) false)
  effect_of (change.Dp dp) = if_linked ((group_of conf dp).0 == (group_of conf d.id).0)
  effect_of (change.Neighbour group vid ip) = if group.0 == (group_of conf d.id).0 then Routes vid else Nothing

-- ---- the units

abbrev pub is_at : Option ℕ → ℕ → Bool
is_at place number = option_map_or (λ n. n == number) place false

-- it is an edge port of the VLAN
abbrev pub has_vlan : Dp → ℕ → ℕ → Bool
has_vlan d number vid = option_map_or (λ p. is_edge_member p vid) (port_with d.ports number) false

abbrev pub touches : Dp → HostEffect → ℕ → Bool
touches d h number = (h.is_ours && ((is_at h.stood number || is_at h.stands number) || (has_vlan d number h.vid && h.turns_vlan))) || h.turns_table

abbrev pub host_reaches : Dp → HostEffect → PlanUnit → Bool
host_reaches d h unit.Dp = false
host_reaches d h (unit.Port number) = touches d h number
host_reaches d h (unit.Vlan vid) = false
host_reaches d h (unit.Host vid mac) = h.is_ours && (h.vid == vid && is_same h.mac.0 mac.0)
host_reaches d h (unit.Route vid) = false

-- what links lead by
abbrev pub is_linked : PlanUnit → Bool
is_linked unit.Dp = false
is_linked (unit.Port number) = false
is_linked (unit.Vlan vid) = true
is_linked (unit.Host vid mac) = true
is_linked (unit.Route vid) = false

abbrev pub routes_reach : Configuration → ℕ → PlanUnit → Bool
routes_reach conf vid unit.Dp = false
routes_reach conf vid (unit.Port number) = false
routes_reach conf vid (unit.Vlan other) = false
routes_reach conf vid (unit.Host other mac) = false
routes_reach conf vid (unit.Route other) = is_among (routing_set conf other) vid

abbrev pub effect_reaches : Configuration → Dp → Effect → PlanUnit → Bool
effect_reaches conf d Nothing u = false
effect_reaches conf d (Host h) u = host_reaches d h u
effect_reaches conf d Stack u = is_linked u
effect_reaches conf d (Routes vid) u = routes_reach conf vid u

-- some of these reaches the unit
abbrev pub reached_by : Configuration → Dp → List Effect → PlanUnit → Bool
reached_by conf d effects u = list_any (λ e. effect_reaches conf d e u) effects

-- ---- the same, listed

-- the units of the hosts of the datapath's group that changes name, be they there or not
abbrev pub named_unit : Effect → List PlanUnit
named_unit Nothing = []
named_unit (Host h) = if h.is_ours then unit.Host h.vid h.mac ∷ [] else []
named_unit Stack = []
named_unit (Routes vid) = []

abbrev pub named_units : List Effect → List PlanUnit
named_units effects = flat_map named_unit effects

-- of a datapath in a state with these hosts
module _ (conf : Configuration) (d : Dp) (hosts : List HostRec) where
  -- the datapath's group has the host
  abbrev pub is_held : ℕ → Mac → Bool
  is_held vid mac = is_some (host_by conf hosts (group_of conf d.id) vid mac)

  abbrev pub own_unit : HostEffect → List PlanUnit
  own_unit h = if h.is_ours && is_held h.vid h.mac then unit.Host h.vid h.mac ∷ [] else []

  abbrev pub touched_ports : HostEffect → List PlanUnit
  touched_ports h = map (λ i. unit.Port i.no) (filter (λ i. touches d h i.no) d.ports)

  -- each VLAN, and each host of the group
  abbrev pub linked_units : List PlanUnit
  linked_units = map (λ v. unit.Vlan v.vid) conf.vlans ++ map (λ h. unit.Host h.vid h.mac) (filter (λ h. (group_of conf h.dp).0 == (group_of conf d.id).0) hosts)

  abbrev pub routed_units : ℕ → List PlanUnit
  routed_units vid = map (λ v. unit.Route v.vid) (filter (λ v. is_among (routing_set conf v.vid) vid) conf.vlans)

  -- the units that it reaches
  abbrev pub units_by : Effect → List PlanUnit
  units_by Nothing = []
  units_by (Host h) = own_unit h ++ touched_ports h
  units_by Stack = linked_units
  units_by (Routes vid) = routed_units vid

  -- those that one of these reaches; some may be there twice
  abbrev pub all_units_by : List Effect → List PlanUnit
  all_units_by effects = flat_map units_by effects
