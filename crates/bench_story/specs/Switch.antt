-- What the switch of the story says, in OpenFlow 1.3.
use Rattle.std.specs.Prelude.{ℕ, zero, suc, ◌+◌, ◌%◌, false, List, [], ◌∷◌, ◌++◌, None}
use Rattle.net_base.specs.declared.field.FieldId.TheVariants.{InPort}
use Rattle.net_base.specs.Field.{exact}
use Rattle.of_wire.specs.Parts.{number, zeros}
use Rattle.of13_codec.specs.declared.message.Message.{Message}
use Rattle.of13_codec.specs.declared.message.Message.TheVariants as messages
use Rattle.of13_codec.specs.declared.ports.PortDesc.{PortDesc}
use Rattle.of13_codec.specs.Messages.{written}
use Rattle.flow_messages.specs.declared.messages.TheConstants.{COOKIE}

-- ---- its setup

abbrev pub hello : List ℕ
hello = written (messages.Hello 4 None) 1

-- it is the datapath 1, with 254 tables
abbrev pub features : List ℕ
features = written (messages.FeaturesReply (record { dp = record { 0 = 1 }; n_buffers = 0; n_tables = 254; auxiliary = 0; capabilities = 0 })) 2

-- a port that is up
abbrev pub port : ℕ → PortDesc
port at = record { no = at; hw = record { 0 = zeros 6 }; name = zeros 16; config = 0; state = 0; rest = zeros 24 }

-- the first so many
unfoldable pub ports : ℕ → List PortDesc
ports zero = []
ports (suc n) = ports n ++ port (suc n) ∷ []

abbrev pub port_reply : List ℕ
port_reply = written (messages.PortDescReply false (ports 48)) 3

-- ---- a host

-- its frame: to all stations, from 02:00 and its number in four bytes, with the tag of VLAN 100, of an EtherType for experiments
-- (0x88b5; IEEE 802, 9.2.4), and 46 zeros
abbrev pub frame : (host : ℕ) → List ℕ
frame host = number 6 0xffffffffffff ++ number 2 0x0200 ++ number 4 host ++ number 2 0x8100 ++ number 2 100 ++ number 2 0x88b5 ++ zeros 46

-- a PACKET_IN has it, whole and of no buffer, from the entry of table 3 that sends what isn't known to the controller; hosts go
-- round the ports
abbrev pub packet_in : (host : ℕ) → Message
packet_in host = messages.PacketIn (record {
  buffer = 0xffffffff;
  total = 64;
  reason = 1;
  table = 3;
  cookie = COOKIE;
  fields = exact InPort (1 + host % 48) ∷ [];
  payload = frame host;
})
