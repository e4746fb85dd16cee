-- The JSON text of a configuration.
use Rattle.std.specs.Prelude.{ℕ, List, [], ◌∷◌, ◌++◌, nat_lt, if◌then◌else◌, Option, codes, decimal, fold, map, length}
use Rattle.std.specs.Option.{option_map_or}
use Rattle.net_base.specs.Address.{ip4_text, mac_text, net4_text}
use Rattle.net_base.specs.Address6.{ip6_text, net6_text}
use Rattle.conf_types.specs.declared.acl.Acl.{Acl}
use Rattle.conf_types.specs.declared.address.Ip.{Ip}
use Rattle.conf_types.specs.declared.address.Ip.TheVariants as ip
use Rattle.conf_types.specs.declared.address.Net.{Net}
use Rattle.conf_types.specs.declared.address.Net.TheVariants as net
use Rattle.conf_types.specs.declared.datapath.Dp.{Dp}
use Rattle.conf_types.specs.declared.datapath.Port.{Port}
use Rattle.conf_types.specs.declared.datapath.StackEnd.{StackEnd}
use Rattle.conf_types.specs.declared.vlan.Route.{Route}
use Rattle.conf_types.specs.declared.vlan.Router.{Router}
use Rattle.conf_types.specs.declared.vlan.Vlan.{Vlan}
use Rattle.conf_types.specs.Configuration.{Configuration, dp_with}
use Rattle.conf_json.specs.Json.{Member, null, flag, quoted, list, object}

-- ---- lists

-- a number in its place among ascending ones
unfoldable pub with_number : List ℕ → ℕ → List ℕ
with_number [] n = n ∷ []
with_number (m ∷ ms) n = if nat_lt m n then m ∷ with_number ms n else n ∷ m ∷ ms

-- numbers, ascending
abbrev pub numbers_text : List ℕ → List ℕ
numbers_text ns = list (map decimal (fold with_number [] ns))

-- texts, as they stand
abbrev pub names_text : List (List ℕ) → List ℕ
names_text names = list (map quoted names)

abbrev pub number_or_null : Option ℕ → List ℕ
number_or_null number = option_map_or decimal number null

-- ---- interfaces

-- the name of the datapath that a far end lies on; a valid configuration has that datapath
abbrev pub far_name : Configuration → StackEnd → List ℕ
far_name conf far = option_map_or (λ d. d.name) (dp_with conf.dps far.dp) []

abbrev pub far_end_text : Configuration → StackEnd → List ℕ
far_end_text conf far = object ((codes "dp", quoted (far_name conf far)) ∷ (codes "port", decimal far.port) ∷ [])

abbrev pub port_members : Configuration → Port → List Member
port_members conf p =
    (codes "acls_in", names_text p.acls)
    ∷ (codes "description", quoted p.description)
    ∷ (codes "enabled", flag p.enabled)
    ∷ (codes "hairpin", flag p.hairpin)
    ∷ (codes "max_hosts", decimal p.max_hosts)
    ∷ (codes "mirror", numbers_text p.mirror)
    ∷ (codes "name", quoted p.name)
    ∷ (codes "native_vlan", number_or_null p.native)
    ∷ (codes "opstatus_reconf", flag p.opstatus_reconf)
    ∷ (codes "output_only", flag p.output_only)
    ∷ (codes "permanent_learn", flag p.permanent_learn)
    ∷ (codes "stack", option_map_or (far_end_text conf) p.stack null)
    ∷ (codes "tagged_vlans", numbers_text p.tagged)
    ∷ (codes "unicast_flood", flag p.unicast_flood) ∷ []

unfoldable pub port_text : Configuration → Port → List ℕ
port_text conf p = object (port_members conf p)

-- ---- datapaths

-- an interface stands under its number
abbrev pub port_member : Configuration → Port → Member
port_member conf p = (decimal p.no, port_text conf p)

-- how often links are probed stands only where they are
abbrev pub lldp_members : Option ℕ → List Member
lldp_members lldp = option_map_or (λ seconds. (codes "lldp_beacon", decimal seconds) ∷ []) lldp []

abbrev pub dp_members : Configuration → Dp → List Member
dp_members conf d =
    (codes "arp_neighbor_timeout", decimal d.arp_timeout)
    ∷ (codes "description", quoted d.description)
    ∷ (codes "dp_id", decimal d.id.0)
    ∷ (codes "drop_bpdu", flag d.drop_bpdu)
    ∷ (codes "drop_broadcast_source_address", flag d.drop_broadcast)
    ∷ (codes "drop_lldp", flag d.drop_lldp)
    ∷ (codes "drop_spoofed_faucet_mac", flag d.drop_spoofed)
    ∷ (codes "hardware", quoted d.hardware)
    ∷ (codes "interfaces", object (map (port_member conf) d.ports))
    ∷ (lldp_members d.lldp
    ++ (codes "stack_priority", number_or_null d.stack_priority)
    ∷ (codes "timeout", decimal d.timeout) ∷ [])

unfoldable pub dp_text : Configuration → Dp → List ℕ
dp_text conf d = object (dp_members conf d)

abbrev pub dp_member : Configuration → Dp → Member
dp_member conf d = (d.name, dp_text conf d)

-- ---- VLANs

abbrev pub ip_text : Ip → List ℕ
ip_text (ip.V4 a) = quoted (ip4_text a.0)
ip_text (ip.V6 a) = quoted (ip6_text a.0)

abbrev pub vip_text : Net → List ℕ
vip_text (net.V4 n) = quoted (net4_text n.ip.0 n.len)
vip_text (net.V6 n) = quoted (net6_text n.ip.0 n.len)

abbrev pub route_text : Route → List ℕ
route_text route =
    object ((codes "ip_dst", vip_text route.dst) ∷ (codes "ip_gw", ip_text route.gw) ∷ [])

abbrev pub vlan_members : Vlan → List Member
vlan_members v =
    (codes "acls_in", names_text v.acls)
    ∷ (codes "description", quoted v.description)
    ∷ (codes "faucet_mac", quoted (mac_text v.mac.0))
    ∷ (codes "faucet_vips", list (map vip_text v.vips))
    ∷ (codes "max_hosts", decimal v.max_hosts)
    ∷ (codes "name", quoted v.name)
    ∷ (codes "routes", list (map route_text v.routes))
    ∷ (codes "unicast_flood", flag v.unicast_flood) ∷ []

unfoldable pub vlan_text : Vlan → List ℕ
vlan_text v = object (vlan_members v)

-- a VLAN stands under its identifier
abbrev pub vlan_member : Vlan → Member
vlan_member v = (decimal v.vid, vlan_text v)

-- ---- the whole

-- an ACL is told by how many rules it has, a router by its VLANs
abbrev pub acl_member : Acl → Member
acl_member acl = (acl.name, decimal (length acl.rules))

abbrev pub router_member : Router → Member
router_member router = (router.name, numbers_text router.vlans)

unfoldable pub json_text : Configuration → List ℕ
json_text conf =
    object ((codes "acls", object (map acl_member conf.acls))
    ∷ (codes "dps", object (map (dp_member conf) conf.dps))
    ∷ (codes "routers", object (map router_member conf.routers))
    ∷ (codes "vlans", object (map vlan_member conf.vlans)) ∷ [])
