-- Messages that can be written: each number fits its bytes, each list its length, and matches,
-- actions and instructions are well formed.
use Rattle.std.specs.Prelude.{◌≡◌, ◌+◌, ◌^◌, ◌<◌, length, IfSome}
use Rattle.std.specs.List.{AllByRecursion}
use Rattle.of_match.specs.WellFormed.{IsAction, AreInstrs}
use Rattle.of_wire.specs.WellFormed.{IsMatch, IsMatchSeen}
use Rattle.of13_codec.specs.declared.message.Message.{Message}
use Rattle.of13_codec.specs.declared.message.Message.TheVariants.{Hello, Error, EchoRequest, EchoReply, FeaturesRequest, FeaturesReply as Features, PacketIn as Packet, PortStatus, PacketOut as Send, FlowMod as Change, PortDescRequest, PortStatsRequest, PortDescReply, PortStatsReply, BarrierRequest, BarrierReply, Other}
use Rattle.of13_codec.specs.declared.features.FeaturesReply.{FeaturesReply}
use Rattle.of13_codec.specs.declared.packet_in.PacketIn.{PacketIn}
use Rattle.of13_codec.specs.declared.packet_out.PacketOut.{PacketOut}
use Rattle.of13_codec.specs.declared.flow_mod.FlowMod.{FlowMod}
use Rattle.of13_codec.specs.declared.ports.PortDesc.{PortDesc}
use Rattle.of13_codec.specs.declared.ports.PortStats.{PortStats}
use Rattle.of13_codec.specs.Messages.{body_of}
use Rattle.of13_codec.specs.Spelling.{IsOther}

pub record IsFeatures (m : FeaturesReply) : Type 0 where
  pub dp : m.dp.0 < 2 ^ 64
  pub n_buffers : m.n_buffers < 2 ^ 32
  pub n_tables : m.n_tables < 2 ^ 8
  pub auxiliary : m.auxiliary < 2 ^ 8
  pub capabilities : m.capabilities < 2 ^ 32

pub record IsPacketIn (m : PacketIn) : Type 0 where
  pub buffer : m.buffer < 2 ^ 32
  pub total : m.total < 2 ^ 16
  pub reason : m.reason < 2 ^ 8
  pub table : m.table < 2 ^ 8
  pub cookie : m.cookie < 2 ^ 64
  pub fields : IsMatchSeen m.fields

pub record IsPacketOut (m : PacketOut) : Type 0 where
  pub buffer : m.buffer < 2 ^ 32
  pub in_port : m.in_port < 2 ^ 32
  pub actions : AllByRecursion IsAction m.actions

pub record IsFlowMod (m : FlowMod) : Type 0 where
  pub cookie : m.cookie < 2 ^ 64
  pub cookie_mask : m.cookie_mask < 2 ^ 64
  pub table : m.table < 2 ^ 8
  pub command : m.command < 2 ^ 8
  pub idle : m.idle < 2 ^ 16
  pub hard : m.hard < 2 ^ 16
  pub priority : m.priority < 2 ^ 16
  pub buffer : m.buffer < 2 ^ 32
  pub out_port : m.out_port < 2 ^ 32
  pub out_group : m.out_group < 2 ^ 32
  pub flags : m.flags < 2 ^ 16
  pub fields : IsMatch m.fields
  pub instrs : AreInstrs m.instrs

-- a port's name has 16 bytes, and what is behind its state 24
pub record IsPort (p : PortDesc) : Type 0 where
  pub no : p.no < 2 ^ 32
  pub hw : length p.hw.0 ≡ 6
  pub name : length p.name ≡ 16
  pub config : p.config < 2 ^ 32
  pub state : p.state < 2 ^ 32
  pub rest : length p.rest ≡ 24

pub record IsStats (s : PortStats) : Type 0 where
  pub no : s.no < 2 ^ 32
  pub counters : AllByRecursion (λ c. c < 2 ^ 64) s.counters
  pub twelve : length s.counters ≡ 12
  pub sec : s.sec < 2 ^ 32
  pub nsec : s.nsec < 2 ^ 32

abbrev pub IsWellFormed : Message → Type 0
IsWellFormed (Hello version bitmap) = (0 < version) × (version < 2 ^ 8) × IfSome bitmap (λ b. b < 2 ^ 32)
IsWellFormed (Error kind code payload) = (kind < 2 ^ 16) × (code < 2 ^ 16)
IsWellFormed (EchoRequest payload) = Unit {0}
IsWellFormed (EchoReply payload) = Unit {0}
IsWellFormed FeaturesRequest = Unit {0}
IsWellFormed (Features m) = IsFeatures m
IsWellFormed (Packet m) = IsPacketIn m
IsWellFormed (PortStatus reason port) = (reason < 2 ^ 8) × IsPort port
IsWellFormed (Send m) = IsPacketOut m
IsWellFormed (Change m) = IsFlowMod m
IsWellFormed PortDescRequest = Unit {0}
IsWellFormed (PortStatsRequest port) = port < 2 ^ 32
IsWellFormed (PortDescReply more ports) = AllByRecursion IsPort ports
IsWellFormed (PortStatsReply more stats) = AllByRecursion IsStats stats
IsWellFormed BarrierRequest = Unit {0}
IsWellFormed BarrierReply = Unit {0}
IsWellFormed (Other kind body) = (kind < 2 ^ 8) × IsOther kind body

-- the length of the whole message fits its 2 bytes
abbrev pub FitsFrame : Message → Type 0
FitsFrame m = 8 + length (body_of m) < 2 ^ 16
