-- How messages are spelled (OpenFlow 1.3, 7), with zeros in all padding.
use Rattle.std.specs.Prelude.{ℕ, ◌+◌, Bool, List, [], ◌++◌, length, Option, Some, None, if◌then◌else◌}
use Rattle.std.specs.List.{flat_map}
use Rattle.of_wire.specs.Numbers.{number_in}
use Rattle.of_wire.specs.Parts.{number, zeros, match_bytes, action_bytes, instr_bytes}
use Rattle.of13_codec.specs.declared.message.Message.{Message}
use Rattle.of13_codec.specs.declared.message.Message.TheVariants.{Hello, Error, EchoRequest, EchoReply, FeaturesRequest, FeaturesReply as Features, PacketIn as Packet, PortStatus, PacketOut as Send, FlowMod as Change, PortDescRequest, PortStatsRequest, PortDescReply, PortStatsReply, BarrierRequest, BarrierReply, Other}
use Rattle.of13_codec.specs.declared.codec.FrameHead.{FrameHead}
use Rattle.of13_codec.specs.declared.features.FeaturesReply.{FeaturesReply}
use Rattle.of13_codec.specs.declared.packet_in.PacketIn.{PacketIn}
use Rattle.of13_codec.specs.declared.packet_out.PacketOut.{PacketOut}
use Rattle.of13_codec.specs.declared.flow_mod.FlowMod.{FlowMod}
use Rattle.of13_codec.specs.declared.ports.PortDesc.{PortDesc}
use Rattle.of13_codec.specs.declared.ports.PortStats.{PortStats}

-- HELLO (7.5.1): no element, or one with a bitmap of 4 bytes
abbrev pub hello_bytes : Option ℕ → List ℕ
hello_bytes None = []
hello_bytes (Some bitmap) = number 2 1 ++ number 2 8 ++ number 4 bitmap

-- ERROR (7.4.4)
abbrev pub error_bytes : (kind code : ℕ) → List ℕ → List ℕ
error_bytes kind code payload = number 2 kind ++ number 2 code ++ payload

-- FEATURES_REPLY (7.3.1)
abbrev pub features_bytes : FeaturesReply → List ℕ
features_bytes m =
    number 8 m.dp.0 ++ number 4 m.n_buffers ++ number 1 m.n_tables ++ number 1 m.auxiliary ++ zeros 2 ++ number 4 m.capabilities ++ zeros 4

-- PACKET_IN (7.4.1)
abbrev pub packet_in_head : PacketIn → List ℕ
packet_in_head m = number 4 m.buffer ++ number 2 m.total ++ number 1 m.reason ++ number 1 m.table ++ number 8 m.cookie

abbrev pub packet_in_bytes : PacketIn → List ℕ
packet_in_bytes m = packet_in_head m ++ match_bytes m.fields ++ zeros 2 ++ m.payload

-- a port (7.2.1)
abbrev pub port_front : PortDesc → List ℕ
port_front p = number 4 p.no ++ zeros 4 ++ p.hw.0 ++ zeros 2

abbrev pub port_back : PortDesc → List ℕ
port_back p = p.name ++ number 4 p.config ++ number 4 p.state ++ p.rest

unfoldable pub port_bytes : PortDesc → List ℕ
port_bytes p = port_front p ++ port_back p

-- PORT_STATUS (7.4.3)
abbrev pub port_status_bytes : ℕ → PortDesc → List ℕ
port_status_bytes reason port = number 1 reason ++ zeros 7 ++ port_bytes port

-- PACKET_OUT (7.3.7)
abbrev pub packet_out_bytes : PacketOut → List ℕ
packet_out_bytes m =
    number 4 m.buffer ++ number 4 m.in_port ++ number 2 (length (flat_map action_bytes m.actions)) ++ zeros 6 ++ flat_map action_bytes m.actions ++ m.payload

-- FLOW_MOD (7.3.4.1)
abbrev pub flow_mod_target : FlowMod → List ℕ
flow_mod_target m = number 8 m.cookie ++ number 8 m.cookie_mask ++ number 1 m.table ++ number 1 m.command

abbrev pub flow_mod_terms : FlowMod → List ℕ
flow_mod_terms m = number 2 m.idle ++ number 2 m.hard ++ number 2 m.priority ++ number 4 m.buffer

abbrev pub flow_mod_filter : FlowMod → List ℕ
flow_mod_filter m = number 4 m.out_port ++ number 4 m.out_group ++ number 2 m.flags ++ zeros 2

abbrev pub flow_mod_bytes : FlowMod → List ℕ
flow_mod_bytes m = flow_mod_target m ++ flow_mod_terms m ++ flow_mod_filter m ++ match_bytes m.fields ++ flat_map instr_bytes m.instrs

-- the front of a multipart message (7.3.5): its type and its flags
abbrev pub multipart_head : (kind flags : ℕ) → List ℕ
multipart_head kind flags = number 2 kind ++ number 2 flags ++ zeros 4

-- the counters of a port (7.3.5.6)
unfoldable pub port_stats_bytes : PortStats → List ℕ
port_stats_bytes s = number 4 s.no ++ zeros 4 ++ flat_map (number 8) s.counters ++ number 4 s.sec ++ number 4 s.nsec

abbrev pub port_stats_request_bytes : ℕ → List ℕ
port_stats_request_bytes port = multipart_head 4 0 ++ number 4 port ++ zeros 4

-- bit 0 of a reply's flags says that more replies follow
abbrev pub port_desc_reply_bytes : Bool → List PortDesc → List ℕ
port_desc_reply_bytes more ports = multipart_head 13 (if more then 1 else 0) ++ flat_map port_bytes ports

abbrev pub port_stats_reply_bytes : Bool → List PortStats → List ℕ
port_stats_reply_bytes more stats = multipart_head 4 (if more then 1 else 0) ++ flat_map port_stats_bytes stats

-- what stands behind the header
abbrev pub body_of : Message → List ℕ
body_of (Hello version bitmap) = hello_bytes bitmap
body_of (Error kind code payload) = error_bytes kind code payload
body_of (EchoRequest payload) = payload
body_of (EchoReply payload) = payload
body_of FeaturesRequest = []
body_of (Features m) = features_bytes m
body_of (Packet m) = packet_in_bytes m
body_of (PortStatus reason port) = port_status_bytes reason port
body_of (Send m) = packet_out_bytes m
body_of (Change m) = flow_mod_bytes m
body_of PortDescRequest = multipart_head 13 0
body_of (PortStatsRequest port) = port_stats_request_bytes port
body_of (PortDescReply more ports) = port_desc_reply_bytes more ports
body_of (PortStatsReply more ports) = port_stats_reply_bytes more ports
body_of BarrierRequest = []
body_of BarrierReply = []
body_of (Other kind body) = body

-- the type in the header (7.1)
abbrev pub kind_of : Message → ℕ
kind_of (Hello version bitmap) = 0
kind_of (Error kind code payload) = 1
kind_of (EchoRequest payload) = 2
kind_of (EchoReply payload) = 3
kind_of FeaturesRequest = 5
kind_of (Features m) = 6
kind_of (Packet m) = 10
kind_of (PortStatus reason port) = 12
kind_of (Send m) = 13
kind_of (Change m) = 14
kind_of PortDescRequest = 18
kind_of (PortStatsRequest port) = 18
kind_of (PortDescReply more ports) = 19
kind_of (PortStatsReply more ports) = 19
kind_of BarrierRequest = 20
kind_of BarrierReply = 21
kind_of (Other kind body) = kind

-- the version in the header: 4, but for HELLO, which tells the sender's highest
abbrev pub version_of : Message → ℕ
version_of (Hello version bitmap) = version
version_of m = 4

-- a message (7.1): the version, the type, the length of all of it, the transaction id, and the body
abbrev pub framed : (version kind xid : ℕ) → List ℕ → List ℕ
framed version kind xid body = number 1 version ++ number 1 kind ++ number 2 (8 + length body) ++ number 4 xid ++ body

-- the one spelling that is sent
unfoldable pub written : Message → ℕ → List ℕ
written m xid = framed (version_of m) (kind_of m) xid (body_of m)

-- what the front of a frame says
abbrev pub head_of : List ℕ → FrameHead
head_of bytes = record { version = number_in 0 1 bytes; kind = number_in 1 1 bytes; length = number_in 2 2 bytes; xid = number_in 4 4 bytes }
