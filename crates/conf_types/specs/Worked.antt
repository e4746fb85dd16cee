-- Interfaces, datapaths and VLANs with their defaults, and addresses: the parts of what is worked out by
-- hand in modules `worked` of other crates.
use Rattle.std.specs.Prelude.{ℕ, ◌+◌, ◌*◌, true, false, Option, None, List, [], ◌∷◌}
use Rattle.net_base.specs.declared.address.Mac.{Mac}
use Rattle.net_base.specs.declared.numbers.DpId.{DpId}
use Rattle.conf_types.specs.declared.address.Ip.{Ip}
use Rattle.conf_types.specs.declared.address.Ip.TheVariants.{V4}
use Rattle.conf_types.specs.declared.address.Net.{Net}
use Rattle.conf_types.specs.declared.datapath.Dp.{Dp}
use Rattle.conf_types.specs.declared.datapath.Port.{Port}
use Rattle.conf_types.specs.declared.vlan.Vlan.{Vlan}

abbrev pub dp : ℕ → DpId
dp n = record { 0 = n }

-- the station 02:00:00:00:00:n
abbrev pub station : ℕ → Mac
station n = record { 0 = 2 ∷ 0 ∷ 0 ∷ 0 ∷ 0 ∷ n ∷ [] }

-- the gateway 0e:00:00:00:00:n
abbrev pub gateway : ℕ → Mac
gateway n = record { 0 = 14 ∷ 0 ∷ 0 ∷ 0 ∷ 0 ∷ n ∷ [] }

-- the address 10.0.a.b
abbrev pub ip : ℕ → ℕ → Ip
ip a b = V4 (record { 0 = 0x0a000000 + a * 256 + b })

abbrev pub edge : ℕ → Option ℕ → List ℕ → Port
edge number native tagged = record {
  no = number;
  name = [];
  description = [];
  enabled = true;
  native = native;
  tagged = tagged;
  acls = [];
  output_only = false;
  hairpin = false;
  unicast_flood = true;
  permanent_learn = false;
  opstatus_reconf = true;
  max_hosts = 255;
  mirror = [];
  stack = None;
}

abbrev pub datapath : ℕ → Option ℕ → List Port → Dp
datapath id priority ports = record {
  id = dp id;
  name = id ∷ [];
  description = [];
  hardware = [];
  timeout = 300;
  arp_timeout = 30;
  stack_priority = priority;
  lldp = None;
  drop_spoofed = true;
  drop_broadcast = true;
  drop_bpdu = true;
  drop_lldp = true;
  ports = ports;
}

abbrev pub vlan : ℕ → List Net → Vlan
vlan vid vips = record {
  vid = vid;
  name = [];
  description = [];
  mac = gateway 1;
  vips = vips;
  routes = [];
  acls = [];
  max_hosts = 255;
  unicast_flood = true;
}
