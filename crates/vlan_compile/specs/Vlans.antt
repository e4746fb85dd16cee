-- The VLANs of an interface, as the configuration has them.
use Rattle.std.specs.Prelude.{Option, List, ◌++◌, option_to_list}
use Rattle.std.specs.List.{filter_map}
use Rattle.std.specs.Option.{option_and_then}
use Rattle.conf_types.specs.declared.datapath.Port.{Port}
use Rattle.conf_types.specs.declared.vlan.Vlan.{Vlan}
use Rattle.conf_types.specs.Configuration.{Configuration, vlan_with}

-- the one whose packets have no tag there
abbrev pub native_vlan : Configuration → Port → Option Vlan
native_vlan conf i = option_and_then (vlan_with conf.vlans) i.native

-- those whose packets have a tag there
abbrev pub tagged_vlans : Configuration → Port → List Vlan
tagged_vlans conf i = filter_map (vlan_with conf.vlans) i.tagged

abbrev pub vlans_of : Configuration → Port → List Vlan
vlans_of conf i = option_to_list (native_vlan conf i) ++ tagged_vlans conf i
