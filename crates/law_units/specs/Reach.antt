-- Which units of a datapath a difference between two states of one configuration reaches.
use Rattle.std.specs.Prelude.{◌≡◌, ℕ, Bool, true, false, List, Contains, IsSomeAnd}
use Rattle.std.specs.Option.{option_map_or}
use Rattle.net_base.specs.declared.address.Mac.{Mac}
use Rattle.net_base.specs.declared.numbers.DpId.{DpId}
use Rattle.conf_types.specs.declared.change.Change.{Change}
use Rattle.conf_types.specs.declared.change.Change.TheVariants as change
use Rattle.conf_types.specs.declared.datapath.Dp.{Dp}
use Rattle.conf_types.specs.Changes.{host_by}
use Rattle.conf_types.specs.Configuration.{Configuration, port_with, port_at, vlan_with}
use Rattle.conf_types.specs.Groups.{group_of}
use Rattle.conf_types.specs.Membership.{is_stack, is_edge_member}
use Rattle.conf_types.specs.Routing.{routing_set}
use Rattle.conf_types.specs.State.{State, is_host_at, is_vlan_full, is_table_full}
use Rattle.plan_units.specs.declared.unit.Unit.{Unit as PlanUnit}
use Rattle.plan_units.specs.declared.unit.Unit.TheVariants as unit

-- ---- the reach

module _ (conf : Configuration) (old new : State) (d : Dp) where
  -- the number is that of the datapath's group
  abbrev pub IsOurs : DpId → Type 0
  IsOurs group = group.0 ≡ (group_of conf d.id).0

  -- the host stands at this port of the datapath
  abbrev pub StandsAt : State → DpId → ℕ → Mac → ℕ → Type 0
  StandsAt now group vid mac number = IsSomeAnd (host_by conf now.hosts group vid mac) (λ h. is_host_at d.id number h ≡ true)

  -- an edge port of the VLAN
  abbrev pub has_vlan : ℕ → ℕ → Bool
  has_vlan number vid = option_map_or (λ p. is_edge_member p vid) (port_with d.ports number) false

  -- the VLAN has as many hosts as it may in the group
  abbrev pub is_full_in : State → DpId → ℕ → Bool
  is_full_in now group vid = option_map_or (is_vlan_full conf now.hosts group) (vlan_with conf.vlans vid) false

  -- why the unit of a port has to look at a host
  pub data TouchesPort (group : DpId) (vid : ℕ) (mac : Mac) (number : ℕ) : Type 0 where
    -- the host stood or stands there
    stood : StandsAt old group vid mac number → TouchesPort group vid mac number
    stands : StandsAt new group vid mac number → TouchesPort group vid mac number
    -- the VLAN is full in one of the states alone, or the whole table is
    vlan : IsOurs group → has_vlan number vid ≡ true → (is_full_in old group vid ≡ is_full_in new group vid → ⊥) → TouchesPort group vid mac number
    table : (is_table_full old.hosts ≡ is_table_full new.hosts → ⊥) → TouchesPort group vid mac number

  -- an enabled end of a stack link on a datapath of the group
  pub record IsStackEnd (dp : DpId) (port : ℕ) : Type 0 where
    pub ours : IsOurs (group_of conf dp)
    pub stack : IsSomeAnd (port_at conf dp port) (λ p. is_stack p ≡ true)

  -- one row for each kind of change: a host reaches its own unit and ports, a stack link all VLANs and hosts
  abbrev pub Reaches : Change → PlanUnit → Type 0
  Reaches (change.Host group vid mac) (unit.Host w address) = IsOurs group × (vid ≡ w) × (mac.0 ≡ address.0)
  Reaches (change.Host group vid mac) (unit.Port number) = TouchesPort group vid mac number
  Reaches (change.Port dp port) (unit.Vlan w) = IsStackEnd dp port
  Reaches (change.Port dp port) (unit.Host w address) = IsStackEnd dp port
  Reaches (change.Dp dp) (unit.Vlan w) = IsOurs (group_of conf dp)
  Reaches (change.Dp dp) (unit.Host w address) = IsOurs (group_of conf dp)
  Reaches (change.Neighbour group vid ip) (unit.Route w) = IsOurs group × Contains (routing_set conf w) vid
  Reaches c u = ⊥

  -- some change reaches the unit
  pub record IsInReach (changes : List Change) (u : PlanUnit) : Type 0 where
    pub by : Change
    pub named : Contains changes by
    pub reaches : Reaches by u
