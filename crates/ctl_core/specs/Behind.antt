-- What differs behind a step from what was known before it, where no host is new: what was there and isn't any more, and
-- what is there and wasn't.
use Rattle.std.specs.Prelude.{ℕ, ◌&&◌, not, is_some, Bool, false, List, ◌++◌, map, filter}
use Rattle.std.specs.Option.{option_eq, option_map_or}
use Rattle.net_base.specs.declared.numbers.DpId.{DpId}
use Rattle.conf_types.specs.declared.change.Change.{Change}
use Rattle.conf_types.specs.declared.change.Change.TheVariants as change
use Rattle.conf_types.specs.declared.state.HostRec.{HostRec}
use Rattle.conf_types.specs.declared.state.NeighRec.{NeighRec}
use Rattle.conf_types.specs.declared.state.UpRec.{UpRec}
use Rattle.conf_types.specs.Changes.{Standing, host_by, mac_of_neighbour}
use Rattle.conf_types.specs.Configuration.{Configuration}
use Rattle.conf_types.specs.Groups.{group_of}
use Rattle.conf_types.specs.Links.{is_up}
use Rattle.conf_types.specs.State.{State, is_fresh, is_running}
use Rattle.law_names.specs.Differing.{host, is_one_address, is_one_place, neighbour}

-- the datapaths of one list that another hasn't
abbrev pub dps_left : (from to : List DpId) → List Change
dps_left from to = map (λ dp. change.Dp dp) (filter (λ dp. not (is_running to dp)) from)

-- the interfaces
abbrev pub ports_left : (from to : List UpRec) → List Change
ports_left from to = map (λ up. change.Port up.dp up.port) (filter (λ up. not (is_up to up.dp up.port)) from)

-- its Ethernet address is known, and another list tells none or another
abbrev pub is_unlike : List NeighRec → NeighRec → Bool
is_unlike to n = is_some n.mac && not (option_eq is_one_address n.mac (mac_of_neighbour to n.group n.vid n.ip))

abbrev pub neighbours_left : (from to : List NeighRec) → List Change
neighbours_left from to = map neighbour (filter (is_unlike to) from)

-- where a host stands, and whether it is fresh at a moment
abbrev pub stands_at : Configuration → (moment : ℕ) → HostRec → Standing
stands_at conf moment h = record { dp = h.dp; port = h.port; is_fresh = is_fresh conf moment h }

-- it stands in another list where it stood, as fresh at one moment as at an earlier one
abbrev pub is_still : Configuration → (before moment : ℕ) → List HostRec → HostRec → Bool
is_still conf before moment to h =
    option_map_or (λ x. is_one_place (stands_at conf before h) (stands_at conf moment x)) (host_by conf to (group_of conf h.dp) h.vid h.mac) false

abbrev pub hosts_left : Configuration → (before moment : ℕ) → (from to : List HostRec) → List Change
hosts_left conf before moment from to = map (host conf) (filter (λ h. not (is_still conf before moment to h)) from)

module _ (conf : Configuration) (from to : State) where
  abbrev pub hosts_behind : List Change
  hosts_behind = hosts_left conf from.moment to.moment from.hosts to.hosts

  abbrev pub learned_behind : List Change
  learned_behind = (hosts_behind ++ neighbours_left from.neighbours to.neighbours) ++ neighbours_left to.neighbours from.neighbours

  abbrev pub dps_behind : List Change
  dps_behind = (learned_behind ++ dps_left from.running to.running) ++ dps_left to.running from.running

  -- all of it
  abbrev pub behind : List Change
  behind = (dps_behind ++ ports_left from.ups to.ups) ++ ports_left to.ups from.ups
