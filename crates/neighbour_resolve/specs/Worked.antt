-- A gateway of IPv6 and a station that speaks to it, byte by byte: what the functions of module `worked` cite.
use Rattle.std.specs.Prelude.{ℕ, ◌≤◌, ◌+◌, ◌*◌, ◌^◌, Option, Some, None, List, [], ◌∷◌, ◌++◌}
use Rattle.std.specs.Option.{option_map}
use Rattle.net_base.specs.declared.address6.Ip6.{Ip6}
use Rattle.conf_types.specs.declared.address.Net.TheVariants as net
use Rattle.conf_types.specs.Configuration.{Configuration}
use Rattle.conf_types.specs.Worked.{datapath, dp, edge, vlan}
use Rattle.pkt_view.specs.Frame.{parts}
use Rattle.neighbour_resolve.specs.declared.answers.Reply.{Reply}
use Rattle.neighbour_resolve.specs.declared.hearing.Sender.{Sender}
use Rattle.neighbour_resolve.specs.Answers.{answer}
use Rattle.neighbour_resolve.specs.Hearing.{heard_sender}

-- the address fd00::n, and its bytes
abbrev pub address : ℕ → Ip6
address n = record { 0 = 0xfd00 * 2 ^ 112 + n }

abbrev pub address_bytes : ℕ → List ℕ
address_bytes n = 0xfd ∷ 0 ∷ 0 ∷ 0 ∷ 0 ∷ 0 ∷ 0 ∷ 0 ∷ 0 ∷ 0 ∷ 0 ∷ 0 ∷ 0 ∷ 0 ∷ 0 ∷ n ∷ []

-- ff02::1:ff00:n, the group of those whose address ends in 0000n
abbrev pub group_bytes : ℕ → List ℕ
group_bytes n = 0xff ∷ 0x02 ∷ 0 ∷ 0 ∷ 0 ∷ 0 ∷ 0 ∷ 0 ∷ 0 ∷ 0 ∷ 0 ∷ 1 ∷ 0xff ∷ 0 ∷ 0 ∷ n ∷ []

-- the station 02:00:00:00:00:01 and the gateway 0e:00:00:00:00:01
abbrev pub station_bytes : List ℕ
station_bytes = 2 ∷ 0 ∷ 0 ∷ 0 ∷ 0 ∷ 1 ∷ []

abbrev pub gateway_bytes : List ℕ
gateway_bytes = 14 ∷ 0 ∷ 0 ∷ 0 ∷ 0 ∷ 1 ∷ []

-- port 1 is native in VLAN 100, whose gateway is fd00::fe; a network has with it that its length is at most the
-- width of its family
abbrev pub one_gateway : 64 ≤ 128 → Configuration
one_gateway fit = record {
  dps = datapath 1 None (edge 1 (Some 100) [] ∷ []) ∷ [];
  vlans = vlan 100 (net.V6 (record { ip = address 0xfe; len = 64; short = fit }) ∷ []) ∷ [];
  acls = [];
  routers = [];
}

-- a header of IPv6 before a message of 32 bytes, with a hop limit
abbrev pub header_with : ℕ → List ℕ
header_with hops = 0x60 ∷ 0 ∷ 0 ∷ 0 ∷ 0 ∷ 32 ∷ 58 ∷ hops ∷ []

-- station 1 at fd00::1 solicits fd00::fe, with the tag of VLAN 100
abbrev pub solicitation : (hops : ℕ) → List ℕ
solicitation hops =
    (0x33 ∷ 0x33 ∷ 0xff ∷ 0 ∷ 0 ∷ 0xfe ∷ []) ++ station_bytes ++ (0x81 ∷ 0 ∷ 0 ∷ 0x64 ∷ 0x86 ∷ 0xdd ∷ []) ++ header_with hops ++ address_bytes 1 ++ group_bytes 0xfe
    ++ (0x87 ∷ 0 ∷ 0x7b ∷ 0x9f ∷ 0 ∷ 0 ∷ 0 ∷ 0 ∷ []) ++ address_bytes 0xfe ++ (1 ∷ 1 ∷ []) ++ station_bytes

-- the gateway advertises fd00::fe to station 1 at fd00::1
abbrev pub advertisement : List ℕ
advertisement =
    station_bytes ++ gateway_bytes ++ (0x86 ∷ 0xdd ∷ []) ++ header_with 255 ++ address_bytes 0xfe ++ address_bytes 1
    ++ (0x88 ∷ 0 ∷ 0x8e ∷ 0xa2 ∷ 0xe0 ∷ 0 ∷ 0 ∷ 0 ∷ []) ++ address_bytes 0xfe ++ (2 ∷ 1 ∷ []) ++ gateway_bytes

-- the gateway asks for fd00::1
abbrev pub question : List ℕ
question =
    (0x33 ∷ 0x33 ∷ 0xff ∷ 0 ∷ 0 ∷ 1 ∷ []) ++ gateway_bytes ++ (0x86 ∷ 0xdd ∷ []) ++ header_with 255 ++ address_bytes 0xfe ++ group_bytes 1
    ++ (0x87 ∷ 0 ∷ 0x70 ∷ 0x9c ∷ 0 ∷ 0 ∷ 0 ∷ 0 ∷ []) ++ address_bytes 1 ++ (1 ∷ 1 ∷ []) ++ gateway_bytes

-- what becomes of a frame that port 1 had
abbrev pub answered : Configuration → List ℕ → Option Reply
answered conf frame = option_map (answer conf (dp 1) 1) (parts frame)

abbrev pub heard : Configuration → List ℕ → Option (Option Sender)
heard conf frame = option_map (heard_sender conf 100) (parts frame)
