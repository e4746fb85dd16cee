-- What is wrong with a frame's body that spells no message of the frame's type, and where. Several
-- faults may stand in the same body. Places count from the first byte of the frame, so the body,
-- which is what stands behind the header, begins at 8.
use Rattle.std.specs.Prelude.{◌≡◌, ◌≢◌, ℕ, ◌+◌, ◌≤◌, ◌<◌, ◌==◌, Bool, true, false, List, [], ◌++◌, length, take, drop, slice_index, Result, Ok, Err, ◌⊎◌}
use Rattle.net_base.specs.declared.field.Field.{Field}
use Rattle.of_wire.specs.declared.fault.PartCause.{PartCause}
use Rattle.of_wire.specs.declared.fault.PartCause.TheVariants.{Short, BadLength, BadPad}
use Rattle.of_wire.specs.Numbers.{number_in}
use Rattle.of_wire.specs.Parts.{up_to_8}
use Rattle.of_wire.specs.Spelling.{SpellsMatch, SpellsMatchSeen}
use Rattle.of_wire.specs.Faults.{IsFirst, Behind, FaultOf, EndsIn, CutsOff, OrShort, From, EndsEarly, PaddedEndsEarly, EachAction, WrongAction, ActionsFault, FaultInMatch, FaultInInstrs}
use Rattle.of13_codec.specs.declared.refused.WireRefused.{WireRefused}
use Rattle.of13_codec.specs.declared.refused.WireRefused.TheVariants.{Version, Length, Body, Memory}
use Rattle.of13_codec.specs.declared.ports.PortDesc.{PortDesc}
use Rattle.of13_codec.specs.declared.ports.PortStats.{PortStats}
use Rattle.of13_codec.specs.Spelling.{Element, SpellsElement, SpellsPort, SpellsStats}

-- ---- the size of a body, which begins at byte 8. An early end stands at the end of the frame.

-- a body of just so many bytes: one that is too long is wrong from the first byte too many on
pub data SizeFault (size : ℕ) (body : List ℕ) : ℕ → PartCause → Type 0 where
  too_few : length body < size → SizeFault size body (8 + length body) Short
  too_many : size < length body → SizeFault size body (8 + size) BadLength

-- a body of at least so many bytes
pub data HeadFault (size : ℕ) (body : List ℕ) : ℕ → PartCause → Type 0 where
  no_head : length body < size → HeadFault size body (8 + length body) Short

-- ---- HELLO (7.5.1)

-- what is wrong with an element
pub data ElementFault (bytes : List ℕ) : ℕ → PartCause → Type 0 where
  element_length : 4 ≤ length bytes → number_in 2 2 bytes < 4 → ElementFault bytes 2 BadLength
  bitmap_length : 4 ≤ length bytes → number_in 0 2 bytes ≡ 1 → number_in 2 2 bytes < 8 → ElementFault bytes 2 BadLength
  element_padding : 4 ≤ number_in 2 2 bytes → (place : ℕ) → number_in 2 2 bytes ≤ place → place < up_to_8 (number_in 2 2 bytes) → place < length bytes → slice_index bytes place ≢ 0 → ElementFault bytes place BadPad

abbrev pub EachElement : List Element → Element → List ℕ → Type 0
EachElement before e bytes = SpellsElement e bytes

abbrev pub WrongElement : List Element → List ℕ → ℕ → PartCause → Type 0
WrongElement before rest place cause = ElementFault rest place cause

abbrev pub HelloFault : List ℕ → ℕ → PartCause → Type 0
HelloFault body = From 8 (OrShort (λ place cause. Behind EachElement (FaultOf WrongElement place cause) [] body) (Behind EachElement (EndsIn PaddedEndsEarly) [] body) body)

-- ---- PACKET_IN (7.4.1): its head, its match, and behind one that is spelled two bytes of padding

pub data PacketInFault (body : List ℕ) : ℕ → PartCause → Type 0 where
  seen_head : length body < 16 → PacketInFault body (8 + length body) Short
  in_seen : 16 ≤ length body → (place : ℕ) (cause : PartCause) → From 24 (FaultInMatch false (drop 16 body)) place cause → PacketInFault body place cause
  seen_end : (fields : List Field) (spelling rest : List ℕ) → drop 16 body ≡ spelling ++ rest → SpellsMatchSeen fields spelling → length rest < 2 → PacketInFault body (8 + length body) Short

-- ---- PACKET_OUT (7.3.7): its head of 16 bytes, and its actions, whose length stands in the head

-- the actions, as far as they are there
abbrev pub sent_actions : List ℕ → List ℕ
sent_actions body = take (number_in 8 2 body) (drop 16 body)

-- the length is wrong where its end lies in the body and cuts off an action in which nothing else is
-- wrong
pub data PacketOutFault (body : List ℕ) : ℕ → PartCause → Type 0 where
  sent_end : length body < 16 + number_in 8 2 body → PacketOutFault body (8 + length body) Short
  actions_cut : 16 + number_in 8 2 body ≤ length body → Behind EachAction (CutsOff EndsEarly WrongAction) [] (sent_actions body) → PacketOutFault body 16 BadLength
  in_actions : (place : ℕ) (cause : PartCause) → From 24 (ActionsFault (sent_actions body)) place cause → PacketOutFault body place cause

-- ---- FLOW_MOD (7.3.4.1): its head, its match, and behind one that is spelled its instructions

pub data FlowModFault (body : List ℕ) : ℕ → PartCause → Type 0 where
  change_head : length body < 40 → FlowModFault body (8 + length body) Short
  in_match : 40 ≤ length body → (place : ℕ) (cause : PartCause) → From 48 (FaultInMatch true (drop 40 body)) place cause → FlowModFault body place cause
  in_instrs : (fields : List Field) (spelling rest : List ℕ) → drop 40 body ≡ spelling ++ rest → SpellsMatch fields spelling
      → (place : ℕ) (cause : PartCause) → From (48 + length spelling) (FaultInInstrs rest) place cause → FlowModFault body place cause

-- ---- multipart messages (7.3.5)

-- a request of ports' descriptions, and of a port's counters
pub data RequestFault (body : List ℕ) : ℕ → PartCause → Type 0 where
  request_head : length body < 8 → RequestFault body (8 + length body) Short
  desc_request : 8 ≤ length body → number_in 0 2 body ≡ 13 → (place : ℕ) (cause : PartCause) → SizeFault 8 body place cause → RequestFault body place cause
  stats_request : 8 ≤ length body → number_in 0 2 body ≡ 4 → (place : ℕ) (cause : PartCause) → SizeFault 16 body place cause → RequestFault body place cause

-- a reply ends inside a port, which takes 64 bytes (7.2.1), or inside a port's counters, which take
-- 112 (7.3.5.6)
abbrev pub EachPort : List PortDesc → PortDesc → List ℕ → Type 0
EachPort before p bytes = SpellsPort p bytes

abbrev pub EachStats : List PortStats → PortStats → List ℕ → Type 0
EachStats before s bytes = SpellsStats s bytes

pub data ReplyFault (body : List ℕ) : ℕ → PartCause → Type 0 where
  reply_head : length body < 8 → ReplyFault body (8 + length body) Short
  ports_end : number_in 0 2 body ≡ 13 → Behind EachPort (EndsIn (λ bytes. length bytes < 64)) [] (drop 8 body) → ReplyFault body (8 + length body) Short
  stats_end : number_in 0 2 body ≡ 4 → Behind EachStats (EndsIn (λ bytes. length bytes < 112)) [] (drop 8 body) → ReplyFault body (8 + length body) Short

-- ---- bodies

-- the first where it is so, and else the second
abbrev pub Where : Bool → Type 0 → Type 0 → Type 0
Where true this other = this
Where false this other = other

-- what is wrong with a body, by the type in the header (7.1); with one of any other type nothing is
abbrev pub FaultInBody : (kind : ℕ) → List ℕ → ℕ → PartCause → Type 0
FaultInBody kind body place cause =
    Where (kind == 0) (HelloFault body place cause) (
    Where (kind == 1) (HeadFault 4 body place cause) (
    Where (kind == 5) (SizeFault 0 body place cause) (
    Where (kind == 6) (SizeFault 24 body place cause) (
    Where (kind == 10) (PacketInFault body place cause) (
    Where (kind == 12) (SizeFault 72 body place cause) (
    Where (kind == 13) (PacketOutFault body place cause) (
    Where (kind == 14) (FlowModFault body place cause) (
    Where (kind == 18) (RequestFault body place cause) (
    Where (kind == 19) (ReplyFault body place cause) (
    Where (kind == 20) (SizeFault 0 body place cause) (
    Where (kind == 21) (SizeFault 0 body place cause) ⊥)))))))))))

-- ---- frames

-- HELLO has any version from 1 on, every other message version 4
abbrev pub IsVersionOf : (kind version : ℕ) → Type 0
IsVersionOf kind version = (kind ≡ 0 → 0 < version) × (kind ≢ 0 → version ≡ 4)

-- what the answer to a frame says: after a message nothing is wrong with its body. Refused are, in
-- this order, a frame shorter than a header, a wrong version, a length that isn't the frame's, and
-- the first fault that stands in the body.
abbrev pub TellsFrame : {X : Type 0} → List ℕ → Result X WireRefused → Type 0
TellsFrame frame (Ok x) = (place : ℕ) (cause : PartCause) → FaultInBody (number_in 1 1 frame) (drop 8 frame) place cause → ⊥
TellsFrame frame (Err Length) = (length frame < 8) ⊎ (IsVersionOf (number_in 1 1 frame) (number_in 0 1 frame) × (number_in 2 2 frame ≢ length frame))
TellsFrame frame (Err Version) = (8 ≤ length frame) × (IsVersionOf (number_in 1 1 frame) (number_in 0 1 frame) → ⊥)
TellsFrame frame (Err (Body fault)) = (8 ≤ length frame) × IsVersionOf (number_in 1 1 frame) (number_in 0 1 frame) × (number_in 2 2 frame ≡ length frame) × IsFirst (FaultInBody (number_in 1 1 frame) (drop 8 frame)) fault
TellsFrame frame (Err Memory) = Unit {0}

-- this was answered, unless memory ran out
abbrev pub Answers : {X : Type 0} → X → Result X WireRefused → Type 0
Answers x (Ok y) = y ≡ x
Answers x (Err Memory) = Unit {0}
Answers x (Err Version) = ⊥
Answers x (Err Length) = ⊥
Answers x (Err (Body fault)) = ⊥
