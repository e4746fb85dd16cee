-- A configuration and its text, worked out by hand: what module `worked` cites.
use Rattle.std.specs.Prelude.{ℕ, Some, None, List, [], ◌∷◌, ◌++◌, codes}
use Rattle.conf_types.specs.declared.datapath.Dp.{Dp}
use Rattle.conf_types.specs.declared.datapath.Port.{Port}
use Rattle.conf_types.specs.declared.vlan.Vlan.{Vlan}
use Rattle.conf_types.specs.Configuration.{Configuration}
use Rattle.conf_types.specs.Worked.{edge, datapath, vlan}

-- an interface of the VLAN 100
abbrev pub host : ℕ → List ℕ → List ℕ → Port
host number name description = record (edge number (Some 100) []) { name = name; description = description }

abbrev pub switch : Dp
switch =
    let ports = host 1 (codes "host1") (codes "host1 network namespace") ∷ host 2 (codes "host2") (codes "host2 network namespace") ∷ [] in
    record (datapath 1 None ports) { name = codes "sw1"; description = codes "sw1"; hardware = codes "Open vSwitch" }

abbrev pub office : Vlan
office = record (vlan 100 []) { name = codes "office"; description = codes "office network" }

-- the configuration of examples/quick-start
abbrev pub quick_start : Configuration
quick_start = record { dps = switch ∷ []; vlans = office ∷ []; acls = []; routers = [] }

abbrev pub quick_start_line : List ℕ
quick_start_line =
    codes "{\"acls\":{},\"dps\":{\"sw1\":{\"arp_neighbor_timeout\":30,\"description\":\"sw1\",\"dp_id\":1,\"drop_bpdu\":true,"
    ++ codes "\"drop_broadcast_source_address\":true,\"drop_lldp\":true,\"drop_spoofed_faucet_mac\":true,\"hardware\":\"Open vSwitch\","
    ++ codes "\"interfaces\":{\"1\":{\"acls_in\":[],\"description\":\"host1 network namespace\",\"enabled\":true,\"hairpin\":false,"
    ++ codes "\"max_hosts\":255,\"mirror\":[],\"name\":\"host1\",\"native_vlan\":100,\"opstatus_reconf\":true,\"output_only\":false,"
    ++ codes "\"permanent_learn\":false,\"stack\":null,\"tagged_vlans\":[],\"unicast_flood\":true},"
    ++ codes "\"2\":{\"acls_in\":[],\"description\":\"host2 network namespace\",\"enabled\":true,\"hairpin\":false,"
    ++ codes "\"max_hosts\":255,\"mirror\":[],\"name\":\"host2\",\"native_vlan\":100,\"opstatus_reconf\":true,\"output_only\":false,"
    ++ codes "\"permanent_learn\":false,\"stack\":null,\"tagged_vlans\":[],\"unicast_flood\":true}},"
    ++ codes "\"stack_priority\":null,\"timeout\":300}},\"routers\":{},\"vlans\":{\"100\":{\"acls_in\":[],\"description\":\"office network\","
    ++ codes "\"faucet_mac\":\"0e:00:00:00:00:01\",\"faucet_vips\":[],\"max_hosts\":255,\"name\":\"office\",\"routes\":[],"
    ++ codes "\"unicast_flood\":true}}}"
