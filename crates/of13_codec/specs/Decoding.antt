-- How the private readers go: a message from its bytes, with the fault that is met. No clause of this
-- crate's public calls rests on it; ctl_core says by `decoded` what a controller hears of a frame. Places
-- count from the first byte of the frame, so the body, which is what stands behind the header, begins at 8.
use Rattle.std.specs.Prelude.{◌≡◌, ℕ, ◌+◌, ◌%◌, Bool, true, false, not, ◌&&◌, ◌||◌, ◌==◌, nat_lt, if◌then◌else◌, List, [], ◌∷◌, ◌++◌, length, take, drop, slice_index, slice_range, Option, Some, None, Result, Ok, Err}
use Rattle.of_wire.specs.declared.fault.PartFault.{PartFault}
use Rattle.of_wire.specs.declared.fault.PartCause.TheVariants.{Short, BadLength}
use Rattle.of_wire.specs.Numbers.{number_in}
use Rattle.of_wire.specs.Parts.{up_to_8}
use Rattle.of_wire.specs.Reading.{◌>>=◌, fault_at, many, padding_at, past_end, match_at, actions_at, instrs_at}
use Rattle.net_base.specs.declared.field.Field.{Field}
use Rattle.of_match.specs.declared.action.Instr.{Instr}
use Rattle.of13_codec.specs.declared.message.Message.{Message}
use Rattle.of13_codec.specs.declared.packet_in.PacketIn.{PacketIn}
use Rattle.of13_codec.specs.declared.message.Message.TheVariants.{Hello, Error, EchoRequest, EchoReply, FeaturesRequest, FeaturesReply as Features, PacketIn as Packet, PortStatus, PacketOut as Send, FlowMod as Change, PortDescRequest, PortStatsRequest, PortDescReply, PortStatsReply, BarrierRequest, BarrierReply, Other}
use Rattle.of13_codec.specs.declared.flow_mod.FlowMod.{FlowMod}
use Rattle.of13_codec.specs.declared.ports.PortDesc.{PortDesc}
use Rattle.of13_codec.specs.declared.ports.PortStats.{PortStats}
use Rattle.of13_codec.specs.declared.refused.WireRefused.{WireRefused}
use Rattle.of13_codec.specs.declared.refused.WireRefused.TheVariants.{Version, Length, Body, Memory}

-- the body ends too early
abbrev pub short : List ℕ → PartFault
short body = fault_at (8 + length body) Short

-- a body of at least, and one of just so many bytes
unfoldable pub at_least : ℕ → List ℕ → Result ℕ PartFault
at_least size body = if nat_lt (length body) size then Err (short body) else Ok size

unfoldable pub exactly : ℕ → List ℕ → Result ℕ PartFault
exactly size body =
    if nat_lt (length body) size then Err (short body) else (
    if nat_lt size (length body) then Err (fault_at (8 + size) BadLength) else Ok size)

-- ---- HELLO (7.5.1)

-- the first bitmap counts
abbrev pub first_bitmap : Option ℕ → (kind : ℕ) → List ℕ → Option ℕ
first_bitmap (Some bitmap) kind bytes = Some bitmap
first_bitmap None kind bytes = if kind == 1 then Some (number_in 4 4 bytes) else None

-- an element of a type and a length, with padding
unfoldable pub element_at : PartFault → Option ℕ → (kind len at : ℕ) → List ℕ → Result (Option ℕ × ℕ) PartFault
element_at past bitmap kind len at bytes =
    if nat_lt len 4 || ((kind == 1) && nat_lt len 8) then Err (fault_at (at + 2) BadLength) else (
    padding_at past at len (up_to_8 len) bytes >>= λ taken. Ok (first_bitmap bitmap kind bytes, taken))

unfoldable pub hello_step : PartFault → Option ℕ → ℕ → List ℕ → Result (Option ℕ × ℕ) PartFault
hello_step past bitmap at bytes =
    if nat_lt (length bytes) 4 then Err past else element_at past bitmap (number_in 0 2 bytes) (number_in 2 2 bytes) at bytes

unfoldable pub hello_at : ℕ → List ℕ → Result Message PartFault
hello_at version body = many (hello_step (short body)) (length body) None 8 body >>= λ bitmap. Ok (Hello version bitmap)

-- ---- ERROR (7.4.4), FEATURES_REPLY (7.3.1)

unfoldable pub error_at : List ℕ → Result Message PartFault
error_at body = at_least 4 body >>= λ n. Ok (Error (number_in 0 2 body) (number_in 2 2 body) (drop 4 body))

unfoldable pub features_at : List ℕ → Result Message PartFault
features_at body = exactly 24 body >>= λ n. Ok (Features (record {
  dp = record { 0 = number_in 0 8 body };
  n_buffers = number_in 8 4 body;
  n_tables = number_in 12 1 body;
  auxiliary = number_in 13 1 body;
  capabilities = number_in 16 4 body;
}))

-- ---- PACKET_IN (7.4.1)

-- the packet of a body with this match and this payload behind it
abbrev pub packet_in_of : List Field → List ℕ → List ℕ → PacketIn
packet_in_of fields body payload = record {
  buffer = number_in 0 4 body;
  total = number_in 4 2 body;
  reason = number_in 6 1 body;
  table = number_in 7 1 body;
  cookie = number_in 8 8 body;
  fields = fields;
  payload = payload;
}

unfoldable pub packet_in_rest : List Field → List ℕ → List ℕ → Result Message PartFault
packet_in_rest fields body rest =
    if nat_lt (length rest) 2 then Err (short body) else Ok (Packet (packet_in_of fields body (drop 2 rest)))

unfoldable pub packet_in_at : List ℕ → Result Message PartFault
packet_in_at body = do
  n ← at_least 16 body
  m ← match_at false 24 (drop 16 body)
  packet_in_rest m.0 body (drop m.1 (drop 16 body))

-- ---- ports (7.2.1, 7.4.3, 7.3.5.6)

unfoldable pub port_of : List ℕ → PortDesc
port_of bytes = record {
  no = number_in 0 4 bytes;
  hw = record { 0 = slice_index bytes 8 ∷ slice_index bytes 9 ∷ slice_index bytes 10 ∷ slice_index bytes 11 ∷ slice_index bytes 12 ∷ slice_index bytes 13 ∷ [] };
  name = slice_range bytes 16 32;
  config = number_in 32 4 bytes;
  state = number_in 36 4 bytes;
  rest = slice_range bytes 40 64;
}

unfoldable pub port_status_at : List ℕ → Result Message PartFault
port_status_at body = exactly 72 body >>= λ n. Ok (PortStatus (number_in 0 1 body) (port_of (drop 8 body)))

unfoldable pub stats_of : List ℕ → PortStats
stats_of bytes = record {
  no = number_in 0 4 bytes;
  counters =
      number_in 8 8 bytes ∷ number_in 16 8 bytes ∷ number_in 24 8 bytes ∷ number_in 32 8 bytes ∷ number_in 40 8 bytes ∷ number_in 48 8 bytes ∷
      number_in 56 8 bytes ∷ number_in 64 8 bytes ∷ number_in 72 8 bytes ∷ number_in 80 8 bytes ∷ number_in 88 8 bytes ∷ number_in 96 8 bytes ∷ [];
  sec = number_in 104 4 bytes;
  nsec = number_in 108 4 bytes;
}

-- ---- PACKET_OUT (7.3.7)

unfoldable pub packet_out_with : ℕ → List ℕ → Result Message PartFault
packet_out_with len body =
    actions_at (past_end len (length (drop 16 body)) (fault_at 16 BadLength) (short body)) 24 (take len (drop 16 body)) >>= λ actions.
    (if nat_lt (length (drop 16 body)) len then Err (short body) else Ok (Send (record {
      buffer = number_in 0 4 body;
      in_port = number_in 4 4 body;
      actions = actions;
      payload = drop len (drop 16 body);
    })))

unfoldable pub packet_out_at : List ℕ → Result Message PartFault
packet_out_at body = at_least 16 body >>= λ n. packet_out_with (number_in 8 2 body) body

-- ---- FLOW_MOD (7.3.4.1)

unfoldable pub flow_mod_of : List Field → List Instr → List ℕ → FlowMod
flow_mod_of fields instrs body = record {
  cookie = number_in 0 8 body;
  cookie_mask = number_in 8 8 body;
  table = number_in 16 1 body;
  command = number_in 17 1 body;
  idle = number_in 18 2 body;
  hard = number_in 20 2 body;
  priority = number_in 22 2 body;
  buffer = number_in 24 4 body;
  out_port = number_in 28 4 body;
  out_group = number_in 32 4 body;
  flags = number_in 36 2 body;
  fields = fields;
  instrs = instrs;
}

unfoldable pub flow_mod_at : List ℕ → Result Message PartFault
flow_mod_at body = do
  n ← at_least 40 body
  m ← match_at true 48 (drop 40 body)
  instrs ← instrs_at (48 + m.1) (drop m.1 (drop 40 body))
  Ok (Change (flow_mod_of m.0 instrs body))

-- ---- multipart messages (7.3.5)

abbrev pub other_at : ℕ → List ℕ → Result Message PartFault
other_at kind body = Ok (Other kind body)

abbrev pub port_desc_request_at : List ℕ → Result Message PartFault
port_desc_request_at body = exactly 8 body >>= λ n. Ok PortDescRequest

abbrev pub port_stats_request_at : List ℕ → Result Message PartFault
port_stats_request_at body = exactly 16 body >>= λ n. Ok (PortStatsRequest (number_in 8 4 body))

unfoldable pub request_at : List ℕ → Result Message PartFault
request_at body = at_least 8 body >>= λ n. (
    if number_in 0 2 body == 13 then port_desc_request_at body else (
    if number_in 0 2 body == 4 then port_stats_request_at body else other_at 18 body))

abbrev pub has_more : List ℕ → Bool
has_more body = number_in 2 2 body % 2 == 1

-- one item more, of so many bytes
unfoldable pub item_step : {A : Type 0} → (size : ℕ) → (List ℕ → A) → PartFault → List A → ℕ → List ℕ → Result (List A × ℕ) PartFault
item_step size of past items at bytes = if nat_lt (length bytes) size then Err past else Ok (items ++ of bytes ∷ [], size)

-- items up to the end of the bytes
unfoldable pub items_at : {A : Type 0} → (size : ℕ) → (List ℕ → A) → PartFault → List ℕ → Result (List A) PartFault
items_at size of past bytes = many (item_step size of past) (length bytes) [] 16 bytes

abbrev pub ports_at : PartFault → List ℕ → Result (List PortDesc) PartFault
ports_at past bytes = items_at 64 port_of past bytes

abbrev pub ports_stats_at : PartFault → List ℕ → Result (List PortStats) PartFault
ports_stats_at past bytes = items_at 112 stats_of past bytes

abbrev pub port_desc_reply_at : List ℕ → Result Message PartFault
port_desc_reply_at body = ports_at (short body) (drop 8 body) >>= λ ports. Ok (PortDescReply (has_more body) ports)

abbrev pub port_stats_reply_at : List ℕ → Result Message PartFault
port_stats_reply_at body = ports_stats_at (short body) (drop 8 body) >>= λ stats. Ok (PortStatsReply (has_more body) stats)

unfoldable pub reply_at : List ℕ → Result Message PartFault
reply_at body = at_least 8 body >>= λ n. (
    if number_in 0 2 body == 13 then port_desc_reply_at body else (
    if number_in 0 2 body == 4 then port_stats_reply_at body else other_at 19 body))

-- ---- messages (7.1)

-- a message that is nothing but its header
abbrev pub bare_at : Message → List ℕ → Result Message PartFault
bare_at m body = exactly 0 body >>= λ n. Ok m

abbrev pub echo_request_at : List ℕ → Result Message PartFault
echo_request_at body = Ok (EchoRequest body)

abbrev pub echo_reply_at : List ℕ → Result Message PartFault
echo_reply_at body = Ok (EchoReply body)

-- a body, by the type in the header
unfoldable pub body_at : (version kind : ℕ) → List ℕ → Result Message PartFault
body_at version kind body =
    if kind == 0 then hello_at version body else (
    if kind == 1 then error_at body else (
    if kind == 2 then echo_request_at body else (
    if kind == 3 then echo_reply_at body else (
    if kind == 5 then bare_at FeaturesRequest body else (
    if kind == 6 then features_at body else (
    if kind == 10 then packet_in_at body else (
    if kind == 12 then port_status_at body else (
    if kind == 13 then packet_out_at body else (
    if kind == 14 then flow_mod_at body else (
    if kind == 18 then request_at body else (
    if kind == 19 then reply_at body else (
    if kind == 20 then bare_at BarrierRequest body else (
    if kind == 21 then bare_at BarrierReply body else other_at kind body)))))))))))))

-- HELLO has any version from 1 on, every other message version 4
abbrev pub is_version : (version kind : ℕ) → Bool
is_version version kind = if kind == 0 then nat_lt 0 version else (version == 4)

abbrev pub with_xid : ℕ → Result Message PartFault → Result (Message × ℕ) WireRefused
with_xid xid (Ok m) = Ok (m, xid)
with_xid xid (Err f) = Err (Body f)

-- a frame is a header and a body, and its length says how many bytes it has
unfoldable pub decoded : List ℕ → Result (Message × ℕ) WireRefused
decoded frame =
    if nat_lt (length frame) 8 then Err Length else (
    if not (is_version (number_in 0 1 frame) (number_in 1 1 frame)) then Err Version else (
    if not (number_in 2 2 frame == length frame) then Err Length else
    with_xid (number_in 4 4 frame) (body_at (number_in 0 1 frame) (number_in 1 1 frame) (drop 8 frame))))

-- what a call answered is what decoding gives, unless memory ran out
abbrev pub Decodes : {X : Type 0} → Result X WireRefused → Result X WireRefused → Type 0
Decodes (Ok x) read = read ≡ Ok x
Decodes (Err Memory) read = Unit {0}
Decodes (Err Version) read = read ≡ Err Version
Decodes (Err Length) read = read ≡ Err Length
Decodes (Err (Body f)) read = read ≡ Err (Body f)
