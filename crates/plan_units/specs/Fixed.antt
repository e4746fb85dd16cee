-- The entries of a datapath that stand once.
use Rattle.std.specs.Prelude.{ℕ, ◌==◌, not, Bool, Some, None, List, [], ◌∷◌, ◌++◌, map, filter, if◌then◌else◌}
use Rattle.std.specs.List.{list_any}
use Rattle.net_base.specs.declared.address.Mac.{Mac}
use Rattle.net_base.specs.declared.field.Field.{Field}
use Rattle.net_base.specs.declared.field.FieldId.TheVariants.{EthDst, EthSrc}
use Rattle.net_base.specs.Field.{exact}
use Rattle.of_match.specs.declared.entry.Entry.{Entry}
use Rattle.conf_types.specs.declared.datapath.Dp.{Dp}
use Rattle.conf_types.specs.declared.vlan.Vlan.{Vlan}
use Rattle.conf_types.specs.Configuration.{Configuration}
use Rattle.conf_types.specs.Lists.{is_same}
use Rattle.packet_way.specs.declared.drops.TheConstants.{BROADCAST, PVST_GROUP, BRIDGE_GROUP}
use Rattle.of_match.specs.declared.ether_type.TheConstants.{LLDP}
use Rattle.plan_base.specs.declared.table.Table.{Table}
use Rattle.plan_base.specs.declared.table.Table.TheVariants.{Admission, Source, Ipv4Route, Ipv6Route, Vip, Destination, Flood}
use Rattle.plan_base.specs.Fields.{eth_src, eth_type, group_src}
use Rattle.plan_base.specs.Entries.{leads_to, entry}

-- ---- table 1: what is dropped

abbrev pub drop : ℕ → Field → Entry
drop priority field = entry Admission priority (field ∷ []) []

-- what bridges say to each other (IEEE 802.1D, and Cisco's)
abbrev pub bridge_drops : Dp → List Entry
bridge_drops d =
    if d.drop_bpdu then drop 33 (exact EthDst PVST_GROUP) ∷ drop 33 (exact EthDst BRIDGE_GROUP) ∷ [] else []

abbrev pub lldp_drops : Dp → List Entry
lldp_drops d = if d.drop_lldp then drop 32 (eth_type LLDP) ∷ [] else []

abbrev pub broadcast_drops : Dp → List Entry
broadcast_drops d = if d.drop_broadcast then drop 31 (exact EthSrc BROADCAST) ∷ [] else []

-- each address of a gateway once
abbrev pub once : List Mac → List Mac
once [] = []
once (mac ∷ macs) = mac ∷ filter (λ m. not (is_same m.0 mac.0)) (once macs)

abbrev pub gateways : Configuration → List Mac
gateways conf = once (map (λ v. v.mac) conf.vlans)

abbrev pub spoofed_drops : Configuration → Dp → List Entry
spoofed_drops conf d = if d.drop_spoofed then map (λ mac. drop 30 (eth_src mac)) (gateways conf) else []

abbrev pub drops : Configuration → Dp → List Entry
drops conf d = bridge_drops d ++ (lldp_drops d ++ (broadcast_drops d ++ spoofed_drops conf d))

-- ---- tables 3 to 7

-- a group address is no source to learn
abbrev pub from_group : Entry
from_group = entry Source 40 (group_src ∷ []) (leads_to [] (Some Ipv4Route))

-- what no other entry takes goes on
abbrev pub pass : Table → Table → Entry
pass table next = entry table 0 [] (leads_to [] (Some next))

abbrev pub passes : List Entry
passes = pass Ipv4Route Ipv6Route ∷ pass Ipv6Route Vip ∷ pass Vip Destination ∷ pass Destination Flood ∷ []

abbrev pub fixed : Configuration → Dp → List Entry
fixed conf d = drops conf d ++ from_group ∷ passes
