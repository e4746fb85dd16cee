-- What a controller has learned, and when that is valid.
use Rattle.std.specs.Prelude.{◌≡◌, ◌==◌, ◌&&◌, ◌||◌, ◌*◌, ◌+◌, ◌≤◌, Bool, true, false, not, ℕ, List, length, IsTrue, IsSomeAnd, count_by, nat_lt, nat_le, is_some}
use Rattle.std.specs.List.{AllByRecursion, list_any}
use Rattle.std.specs.Option.{option_map_or}
use Rattle.net_base.specs.Address.{is_group}
use Rattle.net_base.specs.declared.numbers.DpId.{DpId}
use Rattle.conf_types.specs.declared.datapath.Port.{Port}
use Rattle.conf_types.specs.declared.state.HostRec.{HostRec}
use Rattle.conf_types.specs.declared.state.NeighRec.{NeighRec}
use Rattle.conf_types.specs.declared.state.UpRec.{UpRec}
use Rattle.conf_types.specs.declared.vlan.Vlan.{Vlan}
use Rattle.conf_types.specs.Configuration.{Configuration, dp_with, port_at}
use Rattle.conf_types.specs.Count.{sum_up_to_greatest}
use Rattle.conf_types.specs.Groups.{IsDp, group_of}
use Rattle.conf_types.specs.Links.{is_up}
use Rattle.conf_types.specs.Lists.{EachBefore, is_same}
use Rattle.conf_types.specs.Membership.{is_edge_member, is_accepting}
use Rattle.conf_types.specs.Networks.{is_neighbour_address}
use Rattle.conf_types.specs.Routing.{vips_of}

pub record State : Type 0 where
  -- in milliseconds
  pub moment : ℕ
  -- the datapaths that are connected and hold their entries
  pub running : List DpId
  pub ups : List UpRec
  -- in the order of learning
  pub hosts : List HostRec
  -- in the order of adding
  pub neighbours : List NeighRec

-- ---- hosts

-- the datapath runs
abbrev pub is_running : List DpId → DpId → Bool
is_running running dp = list_any (λ r. r.0 == dp.0) running

-- the host stands at this port
abbrev pub is_host_at : DpId → ℕ → HostRec → Bool
is_host_at dp number host = host.dp.0 == dp.0 && host.port == number

-- the host is one of the VLAN in the group with this number
abbrev pub is_host_in : Configuration → DpId → ℕ → HostRec → Bool
is_host_in conf number vid host = (group_of conf host.dp).0 == number.0 && host.vid == vid

-- the host stands on a port whose first host stays
abbrev pub is_permanent : Configuration → HostRec → Bool
is_permanent conf host = option_map_or (λ p. p.permanent_learn) (port_at conf host.dp host.port) false

-- how long a host of a datapath is fresh, in milliseconds
abbrev pub fresh_for : Configuration → DpId → ℕ
fresh_for conf dp = option_map_or (λ d. d.timeout * 1000) (dp_with conf.dps dp) 0

-- how long a host that is stale is kept, in milliseconds
abbrev pub stale_for : ℕ
stale_for = 30000

-- the moment at which a host of a datapath that was last heard at this one turns stale
abbrev pub stale_at : Configuration → DpId → (heard : ℕ) → ℕ
stale_at conf dp heard = sum_up_to_greatest heard (fresh_for conf dp)

-- and the one at which it is to be forgotten, where its port doesn't keep it for good
abbrev pub forgotten_at : Configuration → DpId → (heard : ℕ) → ℕ
forgotten_at conf dp heard = sum_up_to_greatest heard (fresh_for conf dp + stale_for)

-- the host was heard within its datapath's timeout, or stays for good
abbrev pub is_fresh : Configuration → ℕ → HostRec → Bool
is_fresh conf moment host = is_permanent conf host || nat_lt moment (stale_at conf host.dp host.learned.0)

-- every other host in the list is stale
abbrev pub is_stale : Configuration → ℕ → HostRec → Bool
is_stale conf moment host = not (is_fresh conf moment host)

-- a host that has been stale for that long is to be forgotten
abbrev pub is_to_forget : Configuration → ℕ → HostRec → Bool
is_to_forget conf moment host = not (is_permanent conf host) && nat_le (forgotten_at conf host.dp host.learned.0) moment

-- ---- how many hosts may be learned; stale ones count

abbrev pub is_port_full : List HostRec → DpId → Port → Bool
is_port_full hosts dp p = nat_le p.max_hosts (count_by (is_host_at dp p.no) hosts)

-- the VLAN has as many hosts as it may in the group with this number
abbrev pub is_vlan_full : Configuration → List HostRec → DpId → Vlan → Bool
is_vlan_full conf hosts number v = nat_le v.max_hosts (count_by (is_host_in conf number v.vid) hosts)

abbrev pub most_hosts : ℕ
most_hosts = 16384

abbrev pub is_table_full : List HostRec → Bool
is_table_full hosts = nat_le most_hosts (length hosts)

-- An address may not come to a port in a VLAN: it is that of a host that stays on a port elsewhere in
-- the group, or the port keeps the host that it has there. A host at its own place is never barred.
abbrev pub is_barred : Configuration → List HostRec → DpId → Port → ℕ → List ℕ → Bool
is_barred conf hosts dp p vid mac =
    not (list_any (λ h. is_host_at dp p.no h && h.vid == vid && is_same h.mac.0 mac) hosts)
    && (list_any (λ h. is_host_in conf (group_of conf dp) vid h && is_same h.mac.0 mac && is_permanent conf h) hosts
    || (p.permanent_learn && list_any (λ h. is_host_at dp p.no h && h.vid == vid) hosts))

-- ---- valid state

-- the address of a VLAN's gateway
abbrev pub is_gateway_address : Configuration → List ℕ → Bool
is_gateway_address conf mac = list_any (λ v. is_same v.mac.0 mac) conf.vlans

-- a host stands where hosts are learned: at an edge port of its VLAN that takes packets in and is up
pub record IsHost (conf : Configuration) (state : State) (host : HostRec) : Type 0 where
  pub runs : is_running state.running host.dp ≡ true
  pub up : is_up state.ups host.dp host.port ≡ true
  pub place : IsSomeAnd (port_at conf host.dp host.port) (λ p. IsTrue (is_accepting p && is_edge_member p host.vid))
  pub individual : is_group host.mac ≡ false
  pub no_gateway : is_gateway_address conf host.mac.0 ≡ false

-- hosts have one key: the group, the VLAN and the address
pub record IsSameHost (conf : Configuration) (a b : HostRec) : Type 0 where
  pub groups : (group_of conf a.dp).0 ≡ (group_of conf b.dp).0
  pub vlans : a.vid ≡ b.vid
  pub macs : a.mac.0 ≡ b.mac.0

-- neighbours have one key: the group, the VLAN and the address
pub record IsSameNeighbour (a b : NeighRec) : Type 0 where
  pub groups : a.group.0 ≡ b.group.0
  pub vlans : a.vid ≡ b.vid
  pub ips : a.ip ≡ b.ip

pub record IsNeighbour (conf : Configuration) (state : State) (n : NeighRec) : Type 0 where
  pub address : is_neighbour_address (vips_of conf n.vid) n.ip ≡ true
  -- some datapath of its group runs
  pub runs : list_any (λ dp. (group_of conf dp).0 == n.group.0) state.running ≡ true

pub record IsValidState (conf : Configuration) (state : State) : Type 0 where
  pub running : AllByRecursion (IsDp conf) state.running
  pub ups : AllByRecursion (λ up. IsTrue (is_some (port_at conf up.dp up.port))) state.ups
  pub hosts : AllByRecursion (IsHost conf state) state.hosts
  pub host_keys : EachBefore (λ a b. IsSameHost conf a b → ⊥) state.hosts
  -- a port whose first host stays has at most one in a VLAN
  pub permanent : EachBefore (λ a b. is_permanent conf a ≡ true → is_host_at a.dp a.port b ≡ true → a.vid ≡ b.vid → ⊥) state.hosts
  pub ports : AllByRecursion (λ d. AllByRecursion (λ p. count_by (is_host_at d.id p.no) state.hosts ≤ p.max_hosts) d.ports) conf.dps
  pub vlans : AllByRecursion (λ d. AllByRecursion (λ v. count_by (is_host_in conf (group_of conf d.id) v.vid) state.hosts ≤ v.max_hosts) conf.vlans) conf.dps
  pub table : length state.hosts ≤ most_hosts
  pub neighbours : AllByRecursion (IsNeighbour conf state) state.neighbours
  pub neighbour_keys : EachBefore (λ a b. IsSameNeighbour a b → ⊥) state.neighbours
  pub neighbour_table : length state.neighbours ≤ 2048
