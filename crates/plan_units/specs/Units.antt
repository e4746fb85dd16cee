-- A datapath's plan, unit by unit.
use Rattle.std.specs.Prelude.{ℕ, ◌==◌, ◌&&◌, Bool, List, [], ◌∷◌, ◌++◌, map, filter}
use Rattle.std.specs.List.{find, flat_map}
use Rattle.std.specs.Option.{option_map_or}
use Rattle.of_match.specs.declared.entry.Entry.{Entry}
use Rattle.stack_paths.specs.Stack.{Stack}
use Rattle.conf_types.specs.declared.datapath.Dp.{Dp}
use Rattle.conf_types.specs.declared.datapath.Port.{Port}
use Rattle.conf_types.specs.declared.state.HostRec.{HostRec}
use Rattle.conf_types.specs.declared.vlan.Vlan.{Vlan}
use Rattle.conf_types.specs.Configuration.{Configuration, port_with, vlan_with}
use Rattle.conf_types.specs.Groups.{group_of}
use Rattle.conf_types.specs.Lists.{is_same}
use Rattle.conf_types.specs.State.{State}
use Rattle.packet_way.specs.Known.{stack_of}
use Rattle.acl_compile.specs.Slices.{port_acl, vlan_acl}
use Rattle.vlan_compile.specs.Admissions.{admissions}
use Rattle.vlan_compile.specs.Misses.{misses}
use Rattle.vlan_compile.specs.Sources.{sources}
use Rattle.vlan_compile.specs.Destinations.{destinations}
use Rattle.vlan_compile.specs.Floods.{floods}
use Rattle.route_compile.specs.Routes.{fib}
use Rattle.route_compile.specs.Vips.{vip_slice}
use Rattle.plan_units.specs.declared.unit.Unit.{Unit}
use Rattle.plan_units.specs.declared.unit.Unit.TheVariants as unit
use Rattle.plan_units.specs.Fixed.{fixed}

-- ---- of each member

abbrev pub of_port : Configuration → State → Dp → Port → List Entry
of_port conf now d i = port_acl conf d i ++ (admissions conf d i ++ misses conf d i now.hosts)

abbrev pub of_vlan : Configuration → State → Dp → Vlan → List Entry
of_vlan conf now d v = vlan_acl conf d v ++ (vip_slice d v ++ floods d v (stack_of conf now.ups))

abbrev pub of_host : Configuration → State → Dp → HostRec → List Entry
of_host conf now d h = sources conf d h now.moment ++ destinations d h (stack_of conf now.ups)

abbrev pub of_routes : Configuration → State → Dp → Vlan → List Entry
of_routes conf now d v = fib conf now.neighbours d v

-- a host of the datapath's group
abbrev pub is_of_group : Configuration → Dp → HostRec → Bool
is_of_group conf d h = (group_of conf h.dp).0 == (group_of conf d.id).0

abbrev pub hosts_of : Configuration → State → Dp → List HostRec
hosts_of conf now d = filter (is_of_group conf d) now.hosts

-- ---- of each unit

abbrev pub entries : Configuration → State → Dp → Unit → List Entry
entries conf now d unit.Dp = fixed conf d
entries conf now d (unit.Port number) = option_map_or (of_port conf now d) (port_with d.ports number) []
entries conf now d (unit.Vlan vid) = option_map_or (of_vlan conf now d) (vlan_with conf.vlans vid) []
entries conf now d (unit.Host vid mac) =
    option_map_or (of_host conf now d) (find (λ h. h.vid == vid && is_same h.mac.0 mac.0) (hosts_of conf now d)) []
entries conf now d (unit.Route vid) = option_map_or (of_routes conf now d) (vlan_with conf.vlans vid) []

-- ---- all of them: the datapath's plan, in no particular order

abbrev pub plan : Configuration → State → Dp → List Entry
plan conf now d =
    fixed conf d ++ (flat_map (of_port conf now d) d.ports
    ++ (flat_map (of_vlan conf now d) conf.vlans
    ++ (flat_map (of_host conf now d) (hosts_of conf now d)
    ++ flat_map (of_routes conf now d) conf.vlans)))
