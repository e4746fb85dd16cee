-- Under which names the JSON text of a configuration shows what: one line a name.
use Rattle.std.specs.Prelude.{◌≡◌, ℕ, List, [], ◌∷◌, None, Some, decimal, codes, map, Contains}
use Rattle.net_base.specs.Address.{mac_text}
use Rattle.conf_types.specs.declared.datapath.Dp.{Dp}
use Rattle.conf_types.specs.declared.datapath.Port.{Port}
use Rattle.conf_types.specs.declared.datapath.StackEnd.{StackEnd}
use Rattle.conf_types.specs.declared.vlan.Route.{Route}
use Rattle.conf_types.specs.declared.vlan.Vlan.{Vlan}
use Rattle.conf_types.specs.Configuration.{Configuration}
use Rattle.conf_json.specs.Json.{Member, null, flag, quoted, list, braces}
use Rattle.conf_json.specs.Text.{numbers_text, names_text, number_or_null, far_name, ip_text, vip_text, route_text}

-- the text is an object with this value under the name, and with no other (RFC 8259, 4)
pub record Has (text name value : List ℕ) : Type 0 where
  pub members : List Member
  pub object : text ≡ braces members
  pub there : Contains members (name, value)
  pub alone : (m : Member) → Contains members m → m.0 ≡ name → m.1 ≡ value

-- the names, one below the other, lead to a value of which this holds
abbrev pub Leads : List ℕ → List (List ℕ) → (List ℕ → Type 0) → Type 0
Leads text [] Shows = Shows text
Leads text (name ∷ names) Shows = (value : List ℕ) × Has text name value × Leads value names Shows

-- the far end of a stack link: the name of its datapath, and its number
pub record ShowsFarEnd (conf : Configuration) (far : StackEnd) (text : List ℕ) : Type 0 where
  pub dp : Has text (codes "dp") (quoted (far_name conf far))
  pub port : Has text (codes "port") (decimal far.port)

pub record ShowsPort (conf : Configuration) (p : Port) (text : List ℕ) : Type 0 where
  pub acls : Has text (codes "acls_in") (names_text p.acls)
  pub description : Has text (codes "description") (quoted p.description)
  pub enabled : Has text (codes "enabled") (flag p.enabled)
  pub hairpin : Has text (codes "hairpin") (flag p.hairpin)
  pub max_hosts : Has text (codes "max_hosts") (decimal p.max_hosts)
  pub mirror : Has text (codes "mirror") (numbers_text p.mirror)
  pub name : Has text (codes "name") (quoted p.name)
  pub native : Has text (codes "native_vlan") (number_or_null p.native)
  pub opstatus_reconf : Has text (codes "opstatus_reconf") (flag p.opstatus_reconf)
  pub output_only : Has text (codes "output_only") (flag p.output_only)
  pub permanent_learn : Has text (codes "permanent_learn") (flag p.permanent_learn)
  pub no_stack : p.stack ≡ None → Has text (codes "stack") null
  pub stack : (far : StackEnd) → p.stack ≡ Some far → Leads text (codes "stack" ∷ []) (ShowsFarEnd conf far)
  pub tagged : Has text (codes "tagged_vlans") (numbers_text p.tagged)
  pub unicast_flood : Has text (codes "unicast_flood") (flag p.unicast_flood)

pub record ShowsDp (d : Dp) (text : List ℕ) : Type 0 where
  pub arp_timeout : Has text (codes "arp_neighbor_timeout") (decimal d.arp_timeout)
  pub description : Has text (codes "description") (quoted d.description)
  pub id : Has text (codes "dp_id") (decimal d.id.0)
  pub drop_bpdu : Has text (codes "drop_bpdu") (flag d.drop_bpdu)
  pub drop_broadcast : Has text (codes "drop_broadcast_source_address") (flag d.drop_broadcast)
  pub drop_lldp : Has text (codes "drop_lldp") (flag d.drop_lldp)
  pub drop_spoofed : Has text (codes "drop_spoofed_faucet_mac") (flag d.drop_spoofed)
  pub hardware : Has text (codes "hardware") (quoted d.hardware)
  pub lldp : (seconds : ℕ) → d.lldp ≡ Some seconds → Has text (codes "lldp_beacon") (decimal seconds)
  pub stack_priority : Has text (codes "stack_priority") (number_or_null d.stack_priority)
  pub timeout : Has text (codes "timeout") (decimal d.timeout)

pub record ShowsRoute (route : Route) (text : List ℕ) : Type 0 where
  pub dst : Has text (codes "ip_dst") (vip_text route.dst)
  pub gw : Has text (codes "ip_gw") (ip_text route.gw)

pub record ShowsVlan (v : Vlan) (text : List ℕ) : Type 0 where
  pub acls : Has text (codes "acls_in") (names_text v.acls)
  pub description : Has text (codes "description") (quoted v.description)
  pub mac : Has text (codes "faucet_mac") (quoted (mac_text v.mac.0))
  pub vips : Has text (codes "faucet_vips") (list (map vip_text v.vips))
  pub max_hosts : Has text (codes "max_hosts") (decimal v.max_hosts)
  pub name : Has text (codes "name") (quoted v.name)
  pub routes : Has text (codes "routes") (list (map route_text v.routes))
  pub unicast_flood : Has text (codes "unicast_flood") (flag v.unicast_flood)
