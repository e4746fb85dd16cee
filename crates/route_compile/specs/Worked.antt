-- VLANs, a router and neighbours of which the entries are worked out by hand: what module `worked` cites.
use Rattle.std.specs.Prelude.{ℕ, ◌+◌, ◌*◌, ◌^◌, ◌≤◌, Bool, true, false, Some, None, List, [], ◌∷◌, if◌then◌else◌}
use Rattle.net_base.specs.declared.address.Mac.{Mac}
use Rattle.net_base.specs.declared.address6.Ip6.{Ip6}
use Rattle.net_base.specs.declared.field.Field.{Field}
use Rattle.net_base.specs.declared.field.FieldId.TheVariants.{EthDst, EthSrc, EthType, VlanVid, Ipv4Dst, Ipv6Dst}
use Rattle.net_base.specs.Field.{exact}
use Rattle.of_match.specs.declared.action.Action.TheVariants.{Set, DecTtl}
use Rattle.of_match.specs.declared.action.Instr.{Instr}
use Rattle.of_match.specs.declared.action.Instr.TheVariants.{Goto, Apply}
use Rattle.of_match.specs.declared.entry.Entry.{Entry}
use Rattle.of_match.specs.declared.ether_type.TheConstants.{IPV4, IPV6}
use Rattle.conf_types.specs.declared.address.Ip.{Ip}
use Rattle.conf_types.specs.declared.address.Ip.TheVariants as family
use Rattle.conf_types.specs.declared.address.Net.{Net}
use Rattle.conf_types.specs.declared.address.Net.TheVariants as net
use Rattle.conf_types.specs.declared.datapath.Dp.{Dp}
use Rattle.conf_types.specs.declared.datapath.Port.{Port}
use Rattle.conf_types.specs.declared.state.NeighRec.{NeighRec}
use Rattle.conf_types.specs.declared.vlan.Route.{Route}
use Rattle.conf_types.specs.declared.vlan.Vlan.{Vlan}
use Rattle.conf_types.specs.Configuration.{Configuration}
use Rattle.conf_types.specs.Worked.{station, gateway, ip, edge, datapath, vlan}

abbrev pub row : ℕ → ℕ → List Field → List Instr → Entry
row table priority fields instrs = record { key = record { table = table; priority = priority; fields = fields }; instrs = instrs }

-- tagged in both VLANs
abbrev pub port : Port
port = edge 1 None (100 ∷ 200 ∷ [])

abbrev pub switch : Dp
switch = datapath 1 None (port ∷ [])

abbrev pub routed : ℕ → Mac → List Net → List Route → Vlan
routed vid mac vips routes = record (vlan vid vips) { mac = mac; routes = routes }

-- a network has with it that its length is at most the width of its family
abbrev pub LengthsFit : Type 0
LengthsFit = (24 ≤ 32) × (0 ≤ 32) × (64 ≤ 128) × (0 ≤ 128)

abbrev pub vip : LengthsFit → ℕ → Net
vip fit a = net.V4 (record { ip = record { 0 = 0x0a0000fe + a * 256 }; len = 24; short = fit.0 })

-- the address fd00:a::b, and fe80::b of one link
abbrev pub ip6 : ℕ → ℕ → Ip6
ip6 a b = record { 0 = 0xfd00 * 2 ^ 112 + a * 2 ^ 96 + b }

abbrev pub local : ℕ → Ip6
local b = record { 0 = 0xfe80 * 2 ^ 112 + b }

abbrev pub vip6 : LengthsFit → Ip6 → Net
vip6 fit a = net.V6 (record { ip = a; len = 64; short = fit.2 })

-- all of a family
abbrev pub rest : LengthsFit → Net
rest fit = net.V4 (record { ip = record { 0 = 0 }; len = 0; short = fit.1 })

abbrev pub rest6 : LengthsFit → Net
rest6 fit = net.V6 (record { ip = record { 0 = 0 }; len = 0; short = fit.3 })

-- VLAN 100 has the VIPs 10.0.1.254/24 and fd00:1::fe/64 and sends the rest by 10.0.1.1 and fd00:1::1; VLAN 200
-- has 10.0.2.254/24 and fe80::fe/64
abbrev pub office : LengthsFit → Vlan
office fit = routed 100 (gateway 1) (vip fit 1 ∷ vip6 fit (ip6 1 0xfe) ∷ []) (record { dst = rest fit; gw = ip 1 1 } ∷ record { dst = rest6 fit; gw = family.V6 (ip6 1 1) } ∷ [])

abbrev pub guests : LengthsFit → Vlan
guests fit = routed 200 (gateway 2) (vip fit 2 ∷ vip6 fit (local 0xfe) ∷ []) []

abbrev pub conf : LengthsFit → Configuration
conf fit = record { dps = switch ∷ []; vlans = office fit ∷ guests fit ∷ []; acls = []; routers = record { name = []; vlans = 100 ∷ 200 ∷ []; bgp = None } ∷ [] }

abbrev pub neighbour : ℕ → ℕ → Ip → Bool → NeighRec
neighbour group vid address is_known = record { group = record { 0 = group }; vid = vid; ip = address; mac = (if is_known then Some (station 9) else None); tries = 0; due = record { 0 = 0 } }

-- the ways out and neighbours in VLAN 200 are known, one in VLAN 100 isn't yet; and one of another group
abbrev pub neighbours : List NeighRec
neighbours =
    neighbour 1 100 (ip 1 1) true ∷ neighbour 1 100 (family.V6 (ip6 1 1)) true ∷ neighbour 1 200 (ip 2 2) true ∷ neighbour 1 200 (family.V6 (local 2)) true
    ∷ neighbour 1 100 (ip 1 7) false ∷ neighbour 5 100 (ip 1 8) true ∷ []

-- packets of IPv4 to the gateway of VLAN 100
abbrev pub for_office : List Field → List Field
for_office more = exact EthDst 0x0e0000000001 ∷ exact EthType IPV4 ∷ exact VlanVid 0x1064 ∷ more

-- and a prefix of their destination
abbrev pub to_prefix : ℕ → ℕ → List Field
to_prefix value mask = for_office (record { id = Ipv4Dst; value = value; mask = mask } ∷ [])

-- the same of IPv6
abbrev pub for_office6 : List Field → List Field
for_office6 more = exact EthDst 0x0e0000000001 ∷ exact EthType IPV6 ∷ exact VlanVid 0x1064 ∷ more

abbrev pub to_prefix6 : ℕ → ℕ → List Field
to_prefix6 value mask = for_office6 (record { id = Ipv6Dst; value = value; mask = mask } ∷ [])

-- to station 9 in a VLAN, by its tag, from the VLAN's gateway
abbrev pub to_station : ℕ → ℕ → List Instr
to_station mac tag = Apply (Set (exact EthSrc mac) ∷ Set (exact EthDst 0x020000000009) ∷ Set (exact VlanVid tag) ∷ DecTtl ∷ []) ∷ Goto 7 ∷ []
