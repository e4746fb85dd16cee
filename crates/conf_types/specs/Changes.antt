-- What differs between two states of one configuration, by the names of what may differ.
use Rattle.std.specs.Prelude.{◌≡◌, ℕ, ◌==◌, ◌&&◌, Bool, Option, List, Contains}
use Rattle.std.specs.List.{find}
use Rattle.std.specs.Option.{option_map, option_and_then}
use Rattle.net_base.specs.declared.address.Mac.{Mac}
use Rattle.net_base.specs.declared.numbers.DpId.{DpId}
use Rattle.conf_types.specs.declared.address.Ip.{Ip}
use Rattle.conf_types.specs.declared.change.Change.{Change}
use Rattle.conf_types.specs.declared.change.Change.TheVariants as change
use Rattle.conf_types.specs.declared.state.HostRec.{HostRec}
use Rattle.conf_types.specs.declared.state.NeighRec.{NeighRec}
use Rattle.conf_types.specs.Configuration.{Configuration}
use Rattle.conf_types.specs.Families.{is_same_ip}
use Rattle.conf_types.specs.Links.{is_up}
use Rattle.conf_types.specs.Lists.{is_same}
use Rattle.conf_types.specs.State.{State, is_running, is_host_in, is_fresh}

-- ---- hosts by their keys

-- the host of the group with this number that has the address in the VLAN
abbrev pub host_by : Configuration → List HostRec → DpId → ℕ → Mac → Option HostRec
host_by conf hosts group vid mac = find (λ h. is_host_in conf group vid h && is_same h.mac.0 mac.0) hosts

-- where a host stands, and whether it is fresh: not when it was heard
pub record Standing : Type 0 where
  pub dp : DpId
  pub port : ℕ
  pub is_fresh : Bool

abbrev pub standing : Configuration → State → HostRec → Standing
standing conf now h = record { dp = h.dp; port = h.port; is_fresh = is_fresh conf now.moment h }

abbrev pub standing_of : Configuration → State → DpId → ℕ → Mac → Option Standing
standing_of conf now group vid mac = option_map (standing conf now) (host_by conf now.hosts group vid mac)

-- ---- neighbours by their keys

-- the neighbour's Ethernet address, if it is known
abbrev pub mac_of_neighbour : List NeighRec → DpId → ℕ → Ip → Option Mac
mac_of_neighbour neighbours group vid ip = option_and_then (λ n. n.mac) (find (λ n. n.group.0 == group.0 && n.vid == vid && is_same_ip n.ip ip) neighbours)

-- ---- each difference is named

pub record AreNamed (conf : Configuration) (old new : State) (changes : List Change) : Type 0 where
  pub hosts : (group : DpId) (vid : ℕ) (mac : Mac) → (standing_of conf old group vid mac ≡ standing_of conf new group vid mac → ⊥) → Contains changes (change.Host group vid mac)
  pub ports : (dp : DpId) (port : ℕ) → (is_up old.ups dp port ≡ is_up new.ups dp port → ⊥) → Contains changes (change.Port dp port)
  pub dps : (dp : DpId) → (is_running old.running dp ≡ is_running new.running dp → ⊥) → Contains changes (change.Dp dp)
  -- of a neighbour counts whether its Ethernet address is known, and which it is
  pub neighbours : (group : DpId) (vid : ℕ) (ip : Ip) → (mac_of_neighbour old.neighbours group vid ip ≡ mac_of_neighbour new.neighbours group vid ip → ⊥) → Contains changes (change.Neighbour group vid ip)
