-- What is kept of the hosts of a state, for what a change to the next one reaches.
use Rattle.std.specs.Prelude.{ℕ, ◌==◌, Bool, false, Option, Some, None, List, [], ◌∷◌, if◌then◌else◌}
use Rattle.std.specs.BTreeMap.{get}
use Rattle.std.specs.BTreeSet.{contains}
use Rattle.std.specs.List.{flat_map}
use Rattle.std.specs.Option.{option_and_then, option_map_or}
use Rattle.net_base.specs.declared.address.Mac.{Mac}
use Rattle.conf_types.specs.declared.datapath.Dp.{Dp}
use Rattle.conf_types.specs.declared.state.HostRec.{HostRec}
use Rattle.conf_types.specs.Changes.{host_by}
use Rattle.conf_types.specs.Configuration.{Configuration, vlan_with}
use Rattle.conf_types.specs.Groups.{group_of}
use Rattle.conf_types.specs.State.{is_vlan_full, is_table_full}
use Rattle.plan_units.specs.declared.unit.Unit.{Unit as PlanUnit}
use Rattle.plan_units.specs.declared.unit.Unit.TheVariants as unit
use Rattle.plan_units.specs.Order.{unit_cmp}
use Rattle.conf_types.specs.declared.change.Change.{Change}
use Rattle.conf_types.specs.declared.change.Change.TheVariants as change
use Rattle.warm_plan.specs.declared.stood.Stood.{Stood}
use Rattle.warm_plan.specs.Units.{put}

pub record Places : Type 0 where
  -- the port of the datapath at which the host of a unit stands
  pub port : PlanUnit → Option ℕ
  -- the VLAN of a unit has as many hosts as it may in the datapath's group
  pub is_full : PlanUnit → Bool
  -- and all of them together
  pub is_table_full : Bool

abbrev pub kept_places : Stood → Places
kept_places stood = record { port = get unit_cmp stood.ports; is_full = contains unit_cmp stood.full; is_table_full = stood.is_table_full }

-- none stands on the datapath, and nothing is full
abbrev pub no_places : Places
no_places = record { port = λ _. None; is_full = λ _. false; is_table_full = false }

-- ---- of hosts

-- the port at which a host stands, where it stands on the datapath
abbrev pub port_on : Dp → HostRec → Option ℕ
port_on d h = if h.dp.0 == d.id.0 then Some h.port else None

module _ (conf : Configuration) (d : Dp) (hosts : List HostRec) where
  abbrev pub port_in : ℕ → Mac → Option ℕ
  port_in vid mac = option_and_then (port_on d) (host_by conf hosts (group_of conf d.id) vid mac)

  abbrev pub is_full_in : ℕ → Bool
  is_full_in vid = option_map_or (is_vlan_full conf hosts (group_of conf d.id)) (vlan_with conf.vlans vid) false

  abbrev pub port_at : PlanUnit → Option ℕ
  port_at unit.Dp = None
  port_at (unit.Port number) = None
  port_at (unit.Vlan vid) = None
  port_at (unit.Host vid mac) = port_in vid mac
  port_at (unit.Route vid) = None

  abbrev pub is_full_at : PlanUnit → Bool
  is_full_at unit.Dp = false
  is_full_at (unit.Port number) = false
  is_full_at (unit.Vlan vid) = is_full_in vid
  is_full_at (unit.Host vid mac) = false
  is_full_at (unit.Route vid) = false

  abbrev pub places_of : Places
  places_of = record { port = port_at; is_full = is_full_at; is_table_full = is_table_full hosts }

  -- ---- looked at again

  -- a host's or a VLAN's
  abbrev pub renewed : PlanUnit → Places → Places
  renewed unit.Dp p = p
  renewed (unit.Port number) p = p
  renewed (unit.Vlan vid) p = record p { is_full = put p.is_full (unit.Vlan vid) (is_full_in vid) }
  renewed (unit.Host vid mac) p = record p { port = put p.port (unit.Host vid mac) (port_in vid mac) }
  renewed (unit.Route vid) p = p

  abbrev pub all_renewed : List PlanUnit → Places → Places
  all_renewed [] p = p
  all_renewed (u ∷ us) p = all_renewed us (renewed u p)

-- a host that a change names may stand elsewhere now, and its VLAN be full
abbrev pub moved_units : Change → List PlanUnit
moved_units (change.Host group vid mac) = unit.Host vid mac ∷ unit.Vlan vid ∷ []
moved_units (change.Port dp port) = []
moved_units (change.Dp dp) = []
moved_units (change.Neighbour group vid ip) = []

abbrev pub all_moved : List Change → List PlanUnit
all_moved changes = flat_map moved_units changes
