-- Which of the parts that changes name differ between two states.
use Rattle.std.specs.Prelude.{◌==◌, ◌&&◌, not, Bool, List, filter}
use Rattle.std.specs.Option.{option_eq}
use Rattle.net_base.specs.declared.address.Mac.{Mac}
use Rattle.conf_types.specs.declared.state.HostRec.{HostRec}
use Rattle.conf_types.specs.declared.state.NeighRec.{NeighRec}
use Rattle.conf_types.specs.Configuration.{Configuration}
use Rattle.conf_types.specs.Groups.{group_of}
use Rattle.conf_types.specs.Links.{is_up}
use Rattle.conf_types.specs.Lists.{is_same}
use Rattle.conf_types.specs.State.{State, is_running}
use Rattle.conf_types.specs.Changes.{mac_of_neighbour, Standing, standing_of}
use Rattle.conf_types.specs.declared.change.Change.{Change}
use Rattle.conf_types.specs.declared.change.Change.TheVariants as change
pub use Rattle.law_units.specs.Reached.{is_other}

-- ---- the change that names a host, or a neighbour

abbrev pub host : Configuration → HostRec → Change
host conf h = change.Host (group_of conf h.dp) h.vid h.mac

abbrev pub neighbour : NeighRec → Change
neighbour n = change.Neighbour n.group n.vid n.ip

-- ---- what differs

abbrev pub is_one_place : Standing → Standing → Bool
is_one_place a b = a.dp.0 == b.dp.0 && (a.port == b.port && not (is_other a.is_fresh b.is_fresh))

abbrev pub is_one_address : Mac → Mac → Bool
is_one_address a b = is_same a.0 b.0

-- what the change names isn't the same in both states
abbrev pub differs : Configuration → (old new : State) → Change → Bool
differs conf old new (change.Host group vid mac) =
    not (option_eq is_one_place (standing_of conf old group vid mac) (standing_of conf new group vid mac))
differs conf old new (change.Port dp port) = is_other (is_up old.ups dp port) (is_up new.ups dp port)
differs conf old new (change.Dp dp) = is_other (is_running old.running dp) (is_running new.running dp)
differs conf old new (change.Neighbour group vid ip) =
    not (option_eq is_one_address (mac_of_neighbour old.neighbours group vid ip) (mac_of_neighbour new.neighbours group vid ip))

-- of what was touched, what differs
abbrev pub differing : Configuration → (old new : State) → List Change → List Change
differing conf old new touched = filter (differs conf old new) touched
