-- Messages of which the frames are worked out by hand: what module `worked` cites. Each number in them differs from the others.
use Rattle.std.specs.Prelude.{ℕ, ◌+◌, ◌-◌, ◌*◌, ◌==◌, nat_lt, true, false, if◌then◌else◌, List, [], ◌∷◌, codes, replicate, Some}
use Rattle.net_base.specs.declared.address.Mac.{Mac}
use Rattle.net_base.specs.declared.field.FieldId.TheVariants.{InPort, EthDst, VlanVid}
use Rattle.of_match.specs.declared.action.Action.TheVariants.{Output, PushVlan, PopVlan, DecTtl, Set}
use Rattle.of_match.specs.declared.action.Instr.TheVariants.{Goto, Apply}
use Rattle.of13_codec.specs.declared.message.Message.{Message}
use Rattle.of13_codec.specs.declared.message.Message.TheVariants.{Hello, Error, FeaturesReply as Features, PacketIn as Packet, PortStatus, PacketOut as Send, FlowMod as Change, PortDescReply, PortStatsReply}
use Rattle.of13_codec.specs.declared.ports.PortDesc.{PortDesc}

-- ---- bytes by their hexadecimal digits, between which spaces may stand

abbrev pub digit : ℕ → ℕ
digit c = if nat_lt c 58 then c - 48 else c - 87

abbrev pub hex : List ℕ → List ℕ
hex [] = []
hex (a ∷ []) = []
hex (a ∷ b ∷ rest) = if a == 32 then hex (b ∷ rest) else (16 * digit a + digit b) ∷ hex rest

-- ---- messages

-- that the versions up to 1.3 are known: bit 4
abbrev pub hello : Message
hello = Hello 4 (Some 0x10)

abbrev pub error : Message
error = Error 0x0102 0x0304 (5 ∷ 6 ∷ [])

abbrev pub features : Message
features = Features (record { dp = record { 0 = 0x0102030405060708 }; n_buffers = 0x090a0b0c; n_tables = 0x0d; auxiliary = 0x0e; capabilities = 0x11121314 })

-- by port 0x11121314
abbrev pub packet_in : Message
packet_in = Packet (record {
  buffer = 0x01020304;
  total = 0x0506;
  reason = 7;
  table = 8;
  cookie = 0x090a0b0c0d0e0f10;
  fields = record { id = InPort; value = 0x11121314; mask = 0xffffffff } ∷ [];
  payload = 0x15 ∷ 0x16 ∷ [];
})

-- the packet aa to port 5
abbrev pub packet_out : Message
packet_out = Send (record { buffer = 0xffffffff; in_port = 0xfffffffd; actions = Output 5 0x0607 ∷ []; payload = 0xaa ∷ [] })

-- of any group address: a tag of VLAN 100 on, and by port 3; a tag off and a hop less; on to table 7
abbrev pub flow_mod : Message
flow_mod = Change (record {
  cookie = 0x0102030405060708;
  cookie_mask = 0x1112131415161718;
  table = 0x21;
  command = 0x22;
  idle = 0x2324;
  hard = 0x2526;
  priority = 0x2728;
  buffer = 0x292a2b2c;
  out_port = 0x2d2e2f30;
  out_group = 0x31323334;
  flags = 0x3536;
  fields = record { id = EthDst; value = 0x010000000000; mask = 0x010000000000 } ∷ [];
  instrs = Apply (PushVlan 0x8100 ∷ Set (record { id = VlanVid; value = 0x1064; mask = 0xffff }) ∷ Output 3 0 ∷ PopVlan ∷ DecTtl ∷ []) ∷ Goto 7 ∷ [];
})

abbrev pub mac : Mac
mac = record { 0 = 2 ∷ 0 ∷ 0 ∷ 0 ∷ 0 ∷ 1 ∷ [] }

abbrev pub port : PortDesc
port = record { no = 0x01020304; hw = mac; name = replicate 16 0x41; config = 0x05060708; state = 0x090a0b0c; rest = replicate 24 0x42 }

abbrev pub port_status : Message
port_status = PortStatus 2 port

abbrev pub port_desc_reply : Message
port_desc_reply = PortDescReply false (port ∷ [])

-- and more replies follow
abbrev pub port_stats_reply : Message
port_stats_reply = PortStatsReply true (record { no = 0x21; counters = 1 ∷ 2 ∷ 3 ∷ 4 ∷ 5 ∷ 6 ∷ 7 ∷ 8 ∷ 9 ∷ 10 ∷ 11 ∷ 12 ∷ []; sec = 0x22; nsec = 0x23 } ∷ [])
