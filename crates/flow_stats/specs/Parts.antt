-- The parts of a reply with flow statistics (OpenFlow 1.3, 7.3.5.2): what bytes spell one, and what is wrong with bytes
-- that spell none. A body is what stands behind the header of a MULTIPART_REPLY, and places count from its first byte.
use Rattle.std.specs.Prelude.{◌≡◌, ◌≢◌, ℕ, ◌+◌, ◌-◌, ◌^◌, ◌<◌, ◌≤◌, ◌||◌, ◌==◌, not, nat_lt, if◌then◌else◌, List, [], ◌++◌, length, drop, Option, Some, None, Result, Ok, Err, ◌⊎◌}
use Rattle.of_wire.specs.declared.fault.PartCause.{PartCause}
use Rattle.of_wire.specs.declared.fault.PartCause.TheVariants.{Short, BadClass, BadLength}
use Rattle.of_wire.specs.declared.fault.PartFault.{PartFault}
use Rattle.of_wire.specs.declared.fault.PartRefused.{PartRefused}
use Rattle.of_wire.specs.declared.fault.PartRefused.TheVariants as refused
use Rattle.of_wire.specs.Grammar.{◌▷◌, Number, Ignored, Just, Joined}
use Rattle.of_wire.specs.Numbers.{number_in}
use Rattle.of_wire.specs.Parts.{up_to_8}
use Rattle.of13_codec.specs.Spelling.{Flags}
use Rattle.flow_stats.specs.declared.flow.Flow.{Flow}
use Rattle.flow_stats.specs.declared.flow.FlowPart.{FlowPart}

-- ---- a flow entry

-- bytes that aren't looked into
abbrev pub Anything : List ℕ → Type 0
Anything bytes = Unit {0}

-- a match without its padding: its type, its length, and fields, which aren't looked into; behind it anything up to a
-- multiple of 8 bytes
pub record SpellsKey (key bytes : List ℕ) : Type 0 where
  pub content : (Number 2 1 ▷ Number 2 (length key) ▷ Anything) key
  pub padded : (Just key ▷ Ignored (up_to_8 (length key) - length key)) bytes

-- its length, which counts all of it; the table; for how long it has been there; the priority; timeouts and flags; the
-- cookie; how many packets and bytes it took; its match; its instructions
abbrev pub SpellsFlow : Flow → List ℕ → Type 0
SpellsFlow f bytes =
    (Number 2 (length bytes) ▷ Number 1 f.table ▷ Ignored 9 ▷ Number 2 f.priority ▷ Ignored 10 ▷ Number 8 f.cookie
    ▷ Number 8 f.packets ▷ Number 8 f.bytes ▷ SpellsKey f.key ▷ Anything) bytes

-- flow entries, one behind the other
abbrev pub SpellsFlows : (before flows : List Flow) → List ℕ → Type 0
SpellsFlows before flows bytes = Joined (λ before f. SpellsFlow f) before flows bytes

-- ---- a part

-- its type; flags, of which bit 0 says that more parts follow; and flow entries up to its end
abbrev pub SpellsPart : FlowPart → List ℕ → Type 0
SpellsPart part body = (Number 2 1 ▷ Flags part.more ▷ Ignored 4 ▷ SpellsFlows [] part.flows) body

-- a body of another multipart type, or one that ends before its flow entries begin
abbrev pub IsOtherPart : List ℕ → Type 0
IsOtherPart body = (length body < 8) ⊎ (number_in 0 2 body ≢ 1)

-- ---- what is wrong with a part

-- the length of the flow entry at the front, and the type and the length of its match
abbrev pub flow_len : List ℕ → ℕ
flow_len bytes = number_in 0 2 bytes

abbrev pub match_type : List ℕ → ℕ
match_type bytes = number_in 48 2 bytes

abbrev pub match_len : List ℕ → ℕ
match_len bytes = number_in 50 2 bytes

-- what is wrong with the flow entry that begins there, by the first test that it fails: its length is there, is that of a
-- flow entry and ends within the body; its match is one of fields, and ends with its padding within the flow entry
abbrev pub flow_fault : List ℕ → Option PartCause
flow_fault bytes =
    if nat_lt (length bytes) 2 then Some Short else (
    if nat_lt (flow_len bytes) 56 || nat_lt (length bytes) (flow_len bytes) then Some BadLength else (
    if not (match_type bytes == 1) then Some BadClass else (
    if nat_lt (match_len bytes) 4 || nat_lt (flow_len bytes) (48 + up_to_8 (match_len bytes)) then Some BadLength else None)))

-- a place as it is told: the places behind the last one of 32 bits are that one
abbrev pub told_place : ℕ → ℕ
told_place n = if nat_lt n (2 ^ 32) then n else 2 ^ 32 - 1

-- the flow entries up to there are spelled, and this is wrong with the next one, which begins there
pub record FaultInPart (body : List ℕ) (fault : PartFault) : Type 0 where
  pub head : 8 ≤ length body
  pub kind : number_in 0 2 body ≡ 1
  pub flows : List Flow
  pub front : List ℕ
  pub rest : List ℕ
  pub whole : drop 8 body ≡ front ++ rest
  pub spelled : SpellsFlows [] flows front
  pub some : 0 < length rest
  pub cause : flow_fault rest ≡ Some fault.cause
  pub place : fault.at ≡ told_place (8 + length front)

-- ---- what is answered

abbrev pub Answers : List ℕ → Result (Option FlowPart) PartRefused → Type 0
Answers body (Ok (Some part)) = SpellsPart part body
Answers body (Ok None) = IsOtherPart body
Answers body (Err (refused.At fault)) = FaultInPart body fault
Answers body (Err refused.Memory) = Unit {0}

-- this part, unless memory ran out
abbrev pub IsRead : FlowPart → Result (Option FlowPart) PartRefused → Type 0
IsRead part result = (result ≡ Ok (Some part)) ⊎ (result ≡ Err refused.Memory)
