-- The entries of one member, by what they need of the state.
use Rattle.std.specs.Prelude.{ℕ, List, ◌++◌}
use Rattle.of_match.specs.declared.entry.Entry.{Entry}
use Rattle.stack_paths.specs.Stack.{Stack}
use Rattle.conf_types.specs.declared.datapath.Dp.{Dp}
use Rattle.conf_types.specs.declared.datapath.Port.{Port}
use Rattle.conf_types.specs.declared.state.HostRec.{HostRec}
use Rattle.conf_types.specs.declared.vlan.Vlan.{Vlan}
use Rattle.conf_types.specs.Configuration.{Configuration}
use Rattle.acl_compile.specs.Slices.{port_acl, vlan_acl}
use Rattle.vlan_compile.specs.Admissions.{admissions}
use Rattle.vlan_compile.specs.Misses.{misses}
use Rattle.vlan_compile.specs.Sources.{sources}
use Rattle.vlan_compile.specs.Destinations.{destinations}
use Rattle.vlan_compile.specs.Floods.{floods}
use Rattle.route_compile.specs.Vips.{vip_slice}

-- by the hosts
abbrev pub port_by : Configuration → Dp → List HostRec → Port → List Entry
port_by conf d hosts i = port_acl conf d i ++ (admissions conf d i ++ misses conf d i hosts)

-- by the stack links that are up
abbrev pub vlan_by : Configuration → Dp → Stack → Vlan → List Entry
vlan_by conf d stack v = vlan_acl conf d v ++ (vip_slice d v ++ floods d v stack)

-- by the moment, and the stack links that are up
abbrev pub host_by : Configuration → Dp → ℕ → Stack → HostRec → List Entry
host_by conf d moment stack h = sources conf d h moment ++ destinations d h stack
