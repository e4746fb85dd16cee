-- Tables 4 and 5 of a VLAN: where its gateway sends packets of IPv4 and of IPv6, each family's table alike.
use Rattle.std.specs.Prelude.{◌+◌, ◌==◌, Bool, Some, None, List, [], ◌∷◌, ◌++◌, map, filter, if◌then◌else◌}
use Rattle.std.specs.List.{cons_option}
use Rattle.net_base.specs.declared.field.Field.{Field}
use Rattle.of_match.specs.declared.action.Instr.{Instr}
use Rattle.of_match.specs.declared.entry.Entry.{Entry}
use Rattle.conf_types.specs.declared.datapath.Dp.{Dp}
use Rattle.conf_types.specs.declared.family.Family.{Family}
use Rattle.conf_types.specs.declared.state.NeighRec.{NeighRec}
use Rattle.conf_types.specs.declared.vlan.Vlan.{Vlan}
use Rattle.conf_types.specs.Configuration.{Configuration}
use Rattle.conf_types.specs.Families.{ipv4, ipv6, ip_value, width_of}
use Rattle.conf_types.specs.Groups.{group_of}
use Rattle.packet_way.specs.declared.routes.RouteItem.{RouteItem}
use Rattle.packet_way.specs.declared.routes.Target.{Target}
use Rattle.packet_way.specs.declared.routes.Target.TheVariants.{Gateway, Hop, Network}
use Rattle.packet_way.specs.Routes.{route_list}
use Rattle.plan_base.specs.declared.table.Table.{Table}
use Rattle.plan_base.specs.declared.table.Table.TheVariants.{Ipv4Route, Ipv6Route, Vip, Destination}
use Rattle.plan_base.specs.Fields.{eth_dst, eth_type, vid_field, ip_dst}
use Rattle.plan_base.specs.Actions.{to_controller, set_eth_src, set_eth_dst, set_vid, dec_ttl}
use Rattle.plan_base.specs.Entries.{leads_to, entry}
use Rattle.route_compile.specs.Gateways.{has_gateway}

-- packets of the family to the VLAN's gateway
abbrev pub packets_for : Family → Vlan → List Field
packets_for f v = eth_dst v.mac ∷ eth_type f.ether_type ∷ vid_field v.vid ∷ []

-- those to an address that the item's prefix holds
abbrev pub item_fields : Family → Vlan → RouteItem → List Field
item_fields f v item = packets_for f v ++ cons_option (ip_dst f (ip_value item.ip) item.len) []

-- a VIP is the gateway itself; to a neighbour the packet goes on in the neighbour's VLAN, from its gateway;
-- in a network the controller looks for the neighbour
abbrev pub led_to : Target → List Instr
led_to Gateway = leads_to [] (Some Vip)
led_to (Hop vid gateway mac) = leads_to (set_eth_src gateway ∷ set_eth_dst mac ∷ set_vid vid ∷ dec_ttl ∷ []) (Some Destination)
led_to Network = leads_to (to_controller ∷ []) None

-- where the family's routes stand
abbrev pub route_table : Family → Table
route_table f = if f.width == 32 then Ipv4Route else Ipv6Route

-- a longer prefix comes before a shorter one
abbrev pub item_entry : Family → Vlan → RouteItem → Entry
item_entry f v item = entry (route_table f) (10 + item.len) (item_fields f v item) (led_to item.to)

-- behind all items: a packet that none holds ends
abbrev pub no_route : Family → Vlan → Entry
no_route f v = entry (route_table f) 9 (packets_for f v) []

abbrev pub is_item_of : Family → RouteItem → Bool
is_item_of f item = width_of item.ip == f.width

-- the family's items of a route list
abbrev pub family_fib : Family → Vlan → List RouteItem → List Entry
family_fib f v items = map (item_entry f v) (filter (is_item_of f) items) ++ no_route f v ∷ []

-- the family's table, of the VLAN's route list for the group of the datapath
abbrev pub fib_of : Family → Configuration → List NeighRec → Dp → Vlan → List Entry
fib_of f conf neighbours d v =
    if has_gateway d v then family_fib f v (route_list conf neighbours (group_of conf d.id) v.vid) else []

-- each family in turn
abbrev pub fib : Configuration → List NeighRec → Dp → Vlan → List Entry
fib conf neighbours d v = fib_of ipv4 conf neighbours d v ++ fib_of ipv6 conf neighbours d v
