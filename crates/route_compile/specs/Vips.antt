-- Table 6 of a VLAN: what the controller answers for its gateway.
use Rattle.std.specs.Prelude.{ℕ, None, List, [], ◌∷◌, ◌++◌, map, if◌then◌else◌}
use Rattle.net_base.specs.declared.field.Field.{Field}
use Rattle.of_match.specs.declared.action.Instr.{Instr}
use Rattle.of_match.specs.declared.entry.Entry.{Entry}
use Rattle.of_match.specs.declared.ether_type.TheConstants.{ARP, IPV6}
use Rattle.conf_types.specs.declared.address.Ip.{Ip}
use Rattle.conf_types.specs.declared.address.Ip.TheVariants.{V4, V6}
use Rattle.conf_types.specs.declared.address.Net.{Net}
use Rattle.conf_types.specs.declared.datapath.Dp.{Dp}
use Rattle.conf_types.specs.declared.vlan.Vlan.{Vlan}
use Rattle.conf_types.specs.Families.{ipv4, ipv6, address_of}
use Rattle.plan_base.specs.declared.table.Table.TheVariants.{Vip}
use Rattle.plan_base.specs.Fields.{eth_dst, eth_type, vid_field, ip_proto, icmpv4_type, arp_tpa, icmpv6_type, nd_target}
use Rattle.plan_base.specs.Actions.{to_controller}
use Rattle.plan_base.specs.Entries.{leads_to, entry}
use Rattle.route_compile.specs.declared.gateways.TheConstants.{ICMP, ECHO_REQUEST, ICMP6, ECHO_REQUEST6, SOLICITATION, ADVERTISEMENT}
use Rattle.route_compile.specs.Gateways.{has_gateway}
use Rattle.route_compile.specs.Routes.{packets_for}

abbrev pub only_to_controller : List Instr
only_to_controller = leads_to (to_controller ∷ []) None

-- who asks for an address: by ARP (RFC 826), or by a neighbour's solicitation (RFC 4861, 4.3)
abbrev pub asking_for : ℕ → Ip → List Field
asking_for vid (V4 ip) = eth_type ARP ∷ vid_field vid ∷ arp_tpa ip.0 ∷ []
asking_for vid (V6 ip) = eth_type IPV6 ∷ vid_field vid ∷ ip_proto ICMP6 ∷ icmpv6_type SOLICITATION ∷ nd_target ip.0 ∷ []

-- who asks for a VIP
abbrev pub asked_entry : Vlan → Net → Entry
asked_entry v vip = entry Vip 30 (asking_for v.vid (address_of vip)) only_to_controller

-- an echo request that routing has led here (RFC 792; RFC 4443, 4.1)
abbrev pub echo_entry : Vlan → Entry
echo_entry v = entry Vip 30 (packets_for ipv4 v ++ ip_proto ICMP ∷ icmpv4_type ECHO_REQUEST ∷ []) only_to_controller

abbrev pub echo6_entry : Vlan → Entry
echo6_entry v = entry Vip 30 (packets_for ipv6 v ++ ip_proto ICMP6 ∷ icmpv6_type ECHO_REQUEST6 ∷ []) only_to_controller

-- a neighbour's advertisement that routing has led here (RFC 4861, 4.4)
abbrev pub advert_entry : Vlan → Entry
advert_entry v = entry Vip 20 (packets_for ipv6 v ++ ip_proto ICMP6 ∷ icmpv6_type ADVERTISEMENT ∷ []) only_to_controller

-- other ARP to the gateway, as the answers of neighbours
abbrev pub heard_entry : Vlan → Entry
heard_entry v = entry Vip 20 (eth_dst v.mac ∷ eth_type ARP ∷ vid_field v.vid ∷ []) only_to_controller

-- everything else to the gateway ends
abbrev pub end_entry : Vlan → Entry
end_entry v = entry Vip 10 (eth_dst v.mac ∷ vid_field v.vid ∷ []) []

-- what stands behind those for each VIP
abbrev pub messages : Vlan → List Entry
messages v = echo_entry v ∷ echo6_entry v ∷ advert_entry v ∷ heard_entry v ∷ end_entry v ∷ []

abbrev pub vip_slice : Dp → Vlan → List Entry
vip_slice d v = if has_gateway d v then map (asked_entry v) v.vips ++ messages v else []
