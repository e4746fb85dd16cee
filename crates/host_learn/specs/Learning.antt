-- What the table makes of a host that is heard: by a packet with its address, at a port, in a VLAN.
pub use Rattle.host_list.specs.Hosts.{is_in_place, is_heard, stands_there, is_known, refreshed, moved}
use Rattle.std.specs.Prelude.{◌==◌, ◌&&◌, ◌||◌, not, Bool, false, List, [], ◌∷◌, ◌++◌, length, map, filter, nat_le, if◌then◌else◌}
use Rattle.std.specs.List.{list_any}
use Rattle.std.specs.Option.{option_map_or}
use Rattle.net_base.specs.Address.{is_group}
use Rattle.conf_types.specs.declared.state.HostRec.{HostRec}
use Rattle.conf_types.specs.Configuration.{Configuration, port_at, vlan_with}
use Rattle.conf_types.specs.Groups.{group_of}
use Rattle.conf_types.specs.Lists.{is_same}
use Rattle.conf_types.specs.Membership.{is_accepting, is_edge_member}
use Rattle.conf_types.specs.State.{is_host_at, is_gateway_address, is_barred, is_port_full, is_vlan_full}
use Rattle.host_learn.specs.declared.learn.Learn.{Learn}
use Rattle.host_learn.specs.declared.learn.Learn.TheVariants.{Learned, Moved, Refreshed, Full, NotLearnable}
use Rattle.host_learn.specs.Table.{Table, has_key}

-- some host of its VLAN stands where it is heard
abbrev pub is_occupied : List HostRec → HostRec → Bool
is_occupied hosts heard = list_any (λ host. is_host_at heard.dp heard.port host && host.vid == heard.vid) hosts

-- ---- when a host may be learned

-- where it is heard is an edge port of its VLAN that takes packets in
abbrev pub takes_in : Configuration → HostRec → Bool
takes_in conf heard = option_map_or (λ p. is_accepting p && is_edge_member p heard.vid) (port_at conf heard.dp heard.port) false

-- and its address is that of one station, and no gateway's
abbrev pub is_host : Configuration → HostRec → Bool
is_host conf heard = takes_in conf heard && not (is_group heard.mac) && not (is_gateway_address conf heard.mac.0)

-- the port where a host is heard may not have it: it stays for good elsewhere, or another one does there
abbrev pub is_kept_off : Configuration → List HostRec → HostRec → Bool
is_kept_off conf hosts heard = option_map_or (λ p. is_barred conf hosts heard.dp p heard.vid heard.mac.0) (port_at conf heard.dp heard.port) false

abbrev pub is_learnable : Configuration → List HostRec → HostRec → Bool
is_learnable conf hosts heard = is_host conf heard && not (is_kept_off conf hosts heard)

-- ---- when there is no room

-- the port where a host stands has as many hosts as it may
abbrev pub is_full_at : Configuration → List HostRec → HostRec → Bool
is_full_at conf hosts host = option_map_or (λ p. is_port_full hosts host.dp p) (port_at conf host.dp host.port) false

-- so has its VLAN in its group
abbrev pub is_full_in : Configuration → List HostRec → HostRec → Bool
is_full_in conf hosts host = option_map_or (λ v. is_vlan_full conf hosts (group_of conf host.dp) v) (vlan_with conf.vlans host.vid) false

-- the port is full, and the host isn't there; or the VLAN or the table is, and the host is new
abbrev pub is_full : Configuration → Table → HostRec → Bool
is_full conf table heard =
    not (stands_there table.hosts heard) && is_full_at conf table.hosts heard
    || not (is_known conf table.hosts heard) && (is_full_in conf table.hosts heard || nat_le table.limit (length table.hosts))

-- ---- the outcome, and the table behind it

abbrev pub outcome : Configuration → Table → HostRec → Learn
outcome conf table heard =
    if not (is_learnable conf table.hosts heard) then NotLearnable
    else if is_full conf table heard then Full
    else if stands_there table.hosts heard then Refreshed
    else if is_known conf table.hosts heard then Moved
    else Learned

abbrev pub hosts_after : Configuration → HostRec → List HostRec → Learn → List HostRec
hosts_after conf heard hosts Learned = hosts ++ heard ∷ []
hosts_after conf heard hosts Moved = moved conf heard hosts
hosts_after conf heard hosts Refreshed = refreshed heard hosts
hosts_after conf heard hosts Full = hosts
hosts_after conf heard hosts NotLearnable = hosts

abbrev pub learned : Configuration → Table → HostRec → Table
learned conf table heard = record table { hosts = hosts_after conf heard table.hosts (outcome conf table heard) }
