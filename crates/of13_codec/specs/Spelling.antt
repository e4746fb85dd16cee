-- What bytes spell a message (OpenFlow 1.3, 7), with anything in padding and reserved fields that a
-- receiver ignores.
use Rattle.std.specs.Prelude.{◌≡◌, ℕ, ◌-◌, ◌%◌, ◌<◌, ◌≤◌, ◌==◌, Bool, if◌then◌else◌, List, [], ◌∷◌, length, Option, Some, None, ◌⊎◌}
use Rattle.of_wire.specs.Numbers.{number_in}
use Rattle.of_wire.specs.Parts.{up_to_8}
use Rattle.of_wire.specs.Grammar.{Then, ◌▷◌, Number, Ignored, Zeros, Just, Joined}
use Rattle.of_wire.specs.Spelling.{SpellsMatch, SpellsMatchSeen, SpellsActions, SpellsInstrs}
use Rattle.of13_codec.specs.declared.message.Message.{Message}
use Rattle.of13_codec.specs.declared.message.Message.TheVariants.{Hello, Error, EchoRequest, EchoReply, FeaturesRequest, FeaturesReply as Features, PacketIn as Packet, PortStatus, PacketOut as Send, FlowMod as Change, PortDescRequest, PortStatsRequest, PortDescReply, PortStatsReply, BarrierRequest, BarrierReply, Other}
use Rattle.of13_codec.specs.declared.features.FeaturesReply.{FeaturesReply}
use Rattle.of13_codec.specs.declared.packet_in.PacketIn.{PacketIn}
use Rattle.of13_codec.specs.declared.packet_out.PacketOut.{PacketOut}
use Rattle.of13_codec.specs.declared.flow_mod.FlowMod.{FlowMod}
use Rattle.of13_codec.specs.declared.ports.PortDesc.{PortDesc}
use Rattle.of13_codec.specs.declared.ports.PortStats.{PortStats}
use Rattle.of13_codec.specs.Messages.{kind_of, version_of}

-- bytes that stand as they are, so many of them
abbrev pub Raw : ℕ → List ℕ → List ℕ → Type 0
Raw len content bytes = (length bytes ≡ len) × (bytes ≡ content)

-- numbers of one length, one behind the other, and what stands behind them
abbrev pub Numbers : ℕ → List ℕ → (List ℕ → Type 0) → List ℕ → Type 0
Numbers len [] back bytes = back bytes
Numbers len (v ∷ vs) back bytes = Then (Number len v) (Numbers len vs back) bytes

-- ---- HELLO (7.5.1)

-- an element: its type, and what stands behind its type and length
pub record Element : Type 0 where
  pub kind : ℕ
  pub content : List ℕ

-- its length counts no padding. The bitmap of versions, type 1, has at least 4 bytes.
pub record SpellsElement (e : Element) (bytes : List ℕ) : Type 0 where
  pub len : ℕ
  pub parts : (Number 2 e.kind ▷ Number 2 len ▷ Raw (len - 4) e.content ▷ Zeros (up_to_8 len - len)) bytes
  pub head : 4 ≤ len
  pub bitmap : e.kind ≡ 1 → 8 ≤ len

-- the first 4 bytes of the first bitmap; other elements are passed over
abbrev pub bitmap_of : List Element → Option ℕ
bitmap_of [] = None
bitmap_of (e ∷ more) = if e.kind == 1 then Some (number_in 0 4 e.content) else bitmap_of more

pub record SpellsHello (bitmap : Option ℕ) (bytes : List ℕ) : Type 0 where
  pub elements : List Element
  pub parts : Joined (λ before e. SpellsElement e) [] elements bytes
  pub first : bitmap ≡ bitmap_of elements

-- ---- FEATURES_REPLY (7.3.1)

abbrev pub SpellsFeatures : FeaturesReply → List ℕ → Type 0
SpellsFeatures m bytes =
    (Number 8 m.dp.0 ▷ Number 4 m.n_buffers ▷ Number 1 m.n_tables ▷ Number 1 m.auxiliary ▷ Ignored 2 ▷ Number 4 m.capabilities ▷ Ignored 4) bytes

-- ---- PACKET_IN (7.4.1)

abbrev pub SpellsPacketIn : PacketIn → List ℕ → Type 0
SpellsPacketIn m bytes =
    (Number 4 m.buffer ▷ Number 2 m.total ▷ Number 1 m.reason ▷ Number 1 m.table ▷ Number 8 m.cookie ▷ SpellsMatchSeen m.fields ▷ Ignored 2 ▷ Just m.payload) bytes

-- ---- ports (7.2.1, 7.4.3, 7.3.5.6)

abbrev pub SpellsPort : PortDesc → List ℕ → Type 0
SpellsPort p bytes =
    (Number 4 p.no ▷ Ignored 4 ▷ Raw 6 p.hw.0 ▷ Ignored 2 ▷ Raw 16 p.name ▷ Number 4 p.config ▷ Number 4 p.state ▷ Raw 24 p.rest) bytes

-- the counters of a port are 12
pub record SpellsStats (s : PortStats) (bytes : List ℕ) : Type 0 where
  pub parts : (Number 4 s.no ▷ Ignored 4 ▷ Numbers 8 s.counters (Number 4 s.sec ▷ Number 4 s.nsec)) bytes
  pub twelve : length s.counters ≡ 12

-- ---- PACKET_OUT (7.3.7)

pub record SpellsPacketOut (m : PacketOut) (bytes : List ℕ) : Type 0 where
  pub len : ℕ
  pub parts : (Number 4 m.buffer ▷ Number 4 m.in_port ▷ Number 2 len ▷ Ignored 6 ▷ (λ actions. (length actions ≡ len) × SpellsActions m.actions actions) ▷ Just m.payload) bytes

-- ---- FLOW_MOD (7.3.4.1)

abbrev pub SpellsFlowMod : FlowMod → List ℕ → Type 0
SpellsFlowMod m bytes =
    (Number 8 m.cookie ▷ Number 8 m.cookie_mask ▷ Number 1 m.table ▷ Number 1 m.command ▷ Number 2 m.idle ▷ Number 2 m.hard ▷ Number 2 m.priority
    ▷ Number 4 m.buffer ▷ Number 4 m.out_port ▷ Number 4 m.out_group ▷ Number 2 m.flags ▷ Ignored 2 ▷ SpellsMatch m.fields ▷ SpellsInstrs m.instrs) bytes

-- ---- multipart messages (7.3.5)

-- bit 0 of a reply's flags says that more replies follow
pub record Flags (more : Bool) (bytes : List ℕ) : Type 0 where
  pub flags : ℕ
  pub number : Number 2 flags bytes
  pub bit : more ≡ (flags % 2 == 1)

-- another multipart type than those that have a message of their own
abbrev pub IsOtherPart : List ℕ → Type 0
IsOtherPart body = (8 ≤ length body) × (number_in 0 2 body ≡ 13 → ⊥) × (number_in 0 2 body ≡ 4 → ⊥)

-- the types that have a message of their own (7.1)
abbrev pub IsOwnKind : ℕ → Type 0
IsOwnKind kind = (kind < 4) ⊎ ((kind ≡ 5) ⊎ ((kind ≡ 6) ⊎ ((kind ≡ 10) ⊎ ((kind ≡ 12) ⊎ ((kind ≡ 13) ⊎ ((kind ≡ 14) ⊎ ((kind ≡ 20) ⊎ (kind ≡ 21))))))))

-- a message of another type, or a multipart message of another type
pub record IsOther (kind : ℕ) (body : List ℕ) : Type 0 where
  pub other : IsOwnKind kind → ⊥
  pub part : (kind ≡ 18) ⊎ (kind ≡ 19) → IsOtherPart body

-- ---- messages (7.1)

abbrev pub SpellsBody : Message → List ℕ → Type 0
SpellsBody (Hello version bitmap) bytes = SpellsHello bitmap bytes
SpellsBody (Error kind code payload) bytes = (Number 2 kind ▷ Number 2 code ▷ Just payload) bytes
SpellsBody (EchoRequest payload) bytes = Just payload bytes
SpellsBody (EchoReply payload) bytes = Just payload bytes
SpellsBody FeaturesRequest bytes = Just [] bytes
SpellsBody (Features m) bytes = SpellsFeatures m bytes
SpellsBody (Packet m) bytes = SpellsPacketIn m bytes
SpellsBody (PortStatus reason port) bytes = (Number 1 reason ▷ Ignored 7 ▷ SpellsPort port) bytes
SpellsBody (Send m) bytes = SpellsPacketOut m bytes
SpellsBody (Change m) bytes = SpellsFlowMod m bytes
SpellsBody PortDescRequest bytes = (Number 2 13 ▷ Ignored 6) bytes
SpellsBody (PortStatsRequest port) bytes = (Number 2 4 ▷ Ignored 6 ▷ Number 4 port ▷ Ignored 4) bytes
SpellsBody (PortDescReply more ports) bytes = (Number 2 13 ▷ Flags more ▷ Ignored 4 ▷ Joined (λ before p. SpellsPort p) [] ports) bytes
SpellsBody (PortStatsReply more stats) bytes = (Number 2 4 ▷ Flags more ▷ Ignored 4 ▷ Joined (λ before s. SpellsStats s) [] stats) bytes
SpellsBody BarrierRequest bytes = Just [] bytes
SpellsBody BarrierReply bytes = Just [] bytes
SpellsBody (Other kind body) bytes = Just body bytes × IsOther kind body

-- a message with a transaction id: the version, which is 4 but for HELLO, the type, the length of
-- all of it, the id, and the body
pub record Spells (m : Message) (xid : ℕ) (bytes : List ℕ) : Type 0 where
  pub parts : (Number 1 (version_of m) ▷ Number 1 (kind_of m) ▷ Number 2 (length bytes) ▷ Number 4 xid ▷ SpellsBody m) bytes
  pub version : 0 < version_of m
