-- What is wrong with bytes that spell no match, actions or instructions, and where (OpenFlow 1.3,
-- 7.2). Several faults may stand in the same bytes. Places count from the first byte of the part.
-- A header is judged only where all of it is there.
use Rattle.std.specs.Prelude.{◌≡◌, ◌≢◌, ℕ, ◌+◌, ◌-◌, ◌*◌, ◌/◌, ◌%◌, ◌≤◌, ◌<◌, Bool, true, false, List, [], ◌++◌, length, take, drop, slice_index, Option, Result, Ok, Err, ◌⊎◌}
use Rattle.net_base.specs.declared.field.Field.{Field}
use Rattle.net_base.specs.declared.field.FieldId.{FieldId}
use Rattle.net_base.specs.FieldId.{number_of, byte_len_of}
use Rattle.of_match.specs.declared.action.Action.{Action}
use Rattle.of_match.specs.declared.action.Action.TheVariants.{Output, PushVlan, PopVlan, DecTtl, Set}
use Rattle.of_match.specs.declared.action.Instr.{Instr}
use Rattle.net_base.specs.WellFormed.{has_prerequisite}
use Rattle.of_wire.specs.declared.fault.PartFault.{PartFault}
use Rattle.of_wire.specs.declared.fault.PartCause.{PartCause}
use Rattle.of_wire.specs.declared.fault.PartCause.TheVariants.{Short, BadClass, BadLength, BadPad, Repeated, Prerequisite, UnknownAction, UnknownInstr}
use Rattle.of_wire.specs.declared.fault.PartRefused.{PartRefused}
use Rattle.of_wire.specs.declared.fault.PartRefused.TheVariants.{At, Memory}
use Rattle.of_wire.specs.Causes.{cause_number}
use Rattle.of_wire.specs.Numbers.{number_in}
use Rattle.of_wire.specs.Parts.{up_to_8}
use Rattle.of_wire.specs.Grammar.{Joined}
use Rattle.of_wire.specs.Spelling.{stands, has_goto, has_apply, known, SpellsItem, SpellsAction, SpellsInstr, MayFollow}

-- ---- the first fault

-- a fault is told before another: it stands at a lesser place, or its cause has no greater number
abbrev pub ComesFirst : ℕ → PartCause → ℕ → PartCause → Type 0
ComesFirst place cause other_place other_cause = (place < other_place) ⊎ ((place ≡ other_place) × (cause_number cause ≤ cause_number other_cause))

-- a fault stands there, and none that stands there is to be told before it
pub record IsFirst (Stands : ℕ → PartCause → Type 0) (fault : PartFault) : Type 0 where
  pub there : Stands fault.at fault.cause
  pub least : (place : ℕ) (cause : PartCause) → Stands place cause → ComesFirst fault.at fault.cause place cause

-- after a value no fault stands there, and a fault that is answered is the first
abbrev pub TellsFirst : {X : Type 0} → (ℕ → PartCause → Type 0) → Result X PartRefused → Type 0
TellsFirst Stands (Ok x) = (place : ℕ) (cause : PartCause) → Stands place cause → ⊥
TellsFirst Stands (Err Memory) = Unit {0}
TellsFirst Stands (Err (At fault)) = IsFirst Stands fault

-- bytes are spelled, and then no fault stands in them, or a fault is the first that does
abbrev pub SpelledOrFaulty : Type 0 → (ℕ → PartCause → Type 0) → Type 0
SpelledOrFaulty Spelled Stands = (Spelled × ((place : ℕ) (cause : PartCause) → Stands place cause → ⊥)) ⊎ ((fault : PartFault) × IsFirst Stands fault)

-- ---- parts one behind the other

-- what holds behind some parts that are spelled: of how many bytes they take, of them, and of the
-- bytes from there on
pub record Behind {A : Type 0} (spells : List A → A → List ℕ → Type 0) (holds : ℕ → List A → List ℕ → Type 0) (before : List A) (bytes : List ℕ) : Type 0 where
  pub parts : List A
  pub front : List ℕ
  pub rest : List ℕ
  pub whole : bytes ≡ front ++ rest
  pub spelled : Joined spells before parts front
  pub there : holds (length front) (before ++ parts) rest

-- a fault of the part that stands there
pub record FaultOf {A : Type 0} (wrong : List A → List ℕ → ℕ → PartCause → Type 0) (place : ℕ) (cause : PartCause) (from : ℕ) (before : List A) (rest : List ℕ) : Type 0 where
  pub inside : ℕ
  pub is_at : place ≡ from + inside
  pub fault : wrong before rest inside cause

-- the bytes end inside the part that stands there
abbrev pub EndsIn : {A : Type 0} → (List ℕ → Type 0) → ℕ → List A → List ℕ → Type 0
EndsIn early from before rest = (0 < length rest) × early rest

-- and nothing else is wrong with it
abbrev pub CutsOff : {A : Type 0} → (List ℕ → Type 0) → (List A → List ℕ → ℕ → PartCause → Type 0) → ℕ → List A → List ℕ → Type 0
CutsOff early wrong from before rest = (0 < length rest) × early rest × ((place : ℕ) (cause : PartCause) → wrong before rest place cause → ⊥)

-- faults, and that the bytes end too early, which stands at their end
abbrev pub OrShort : (ℕ → PartCause → Type 0) → (ends : Type 0) → List ℕ → ℕ → PartCause → Type 0
OrShort Stands ends bytes place cause = Stands place cause ⊎ ((place ≡ length bytes) × (cause ≡ Short) × ends)

-- the bytes end inside a header of type and length, or before the length that it gives
abbrev pub EndsEarly : List ℕ → Type 0
EndsEarly bytes = (length bytes < 4) ⊎ (length bytes < number_in 2 2 bytes)

-- ---- parts inside others

-- a fault of bytes that begin at a place: its own place counts from there
pub record From (at : ℕ) (Stands : ℕ → PartCause → Type 0) (place : ℕ) (cause : PartCause) : Type 0 where
  pub inside : ℕ
  pub is_at : place ≡ at + inside
  pub fault : Stands inside cause

-- faults, and this one where the bytes are cut off
abbrev pub OrCut : (ℕ → PartCause → Type 0) → (cut : Type 0) → PartFault → ℕ → PartCause → Type 0
OrCut Stands cut fault place cause = Stands place cause ⊎ ((place ≡ fault.at) × (cause ≡ fault.cause) × cut)

-- ---- actions (7.2.5)

abbrev pub type_of : Action → ℕ
type_of (Output port max_len) = 0
type_of (PushVlan eth_type) = 17
type_of PopVlan = 18
type_of DecTtl = 24
type_of (Set f) = 25

-- the types of actions of which each has the same length
abbrev pub IsSized : (kind size : ℕ) → Type 0
IsSized kind size = ((kind ≡ 0) × (size ≡ 16)) ⊎ (((kind ≡ 17) ⊎ ((kind ≡ 18) ⊎ (kind ≡ 24))) × (size ≡ 8))

-- a header at a place names no field, or this one
abbrev pub NamesNone : ℕ → List ℕ → Type 0
NamesNone at bytes = (id : FieldId) → number_in at 2 bytes ≡ 0x8000 → number_in (at + 2) 1 bytes / 2 ≡ number_of id → ⊥

abbrev pub Names : ℕ → FieldId → List ℕ → Type 0
Names at id bytes = (number_in at 2 bytes ≡ 0x8000) × (number_in (at + 2) 1 bytes / 2 ≡ number_of id)

-- what is wrong with a SET_FIELD: its length has to be that of the field in it with the padding, and
-- the field, which has no mask, has to be known and of its length. All but that there is room for a
-- field is judged only where the field's header is there.
pub data SetFault (bytes : List ℕ) : ℕ → PartCause → Type 0 where
  no_room : number_in 2 2 bytes < 8 → SetFault bytes 2 BadLength
  set_length : 8 ≤ length bytes → number_in 2 2 bytes ≢ up_to_8 (8 + number_in 7 1 bytes) → SetFault bytes 2 BadLength
  set_unknown : 8 ≤ length bytes → NamesNone 4 bytes → SetFault bytes 4 BadClass
  set_mask : 8 ≤ length bytes → (id : FieldId) → Names 4 id bytes → number_in 6 1 bytes % 2 ≡ 1 → SetFault bytes 7 BadLength
  set_value : 8 ≤ length bytes → (id : FieldId) → Names 4 id bytes → number_in 7 1 bytes ≢ byte_len_of id → SetFault bytes 7 BadLength
  set_padding : 8 ≤ length bytes → (place : ℕ) → 8 + number_in 7 1 bytes ≤ place → place < number_in 2 2 bytes → place < length bytes → slice_index bytes place ≢ 0 → SetFault bytes place BadPad

-- what is wrong with the action at the front of the bytes
pub data ActionFault (bytes : List ℕ) : ℕ → PartCause → Type 0 where
  unknown_action : 4 ≤ length bytes → ((a : Action) → type_of a ≡ number_in 0 2 bytes → ⊥) → ActionFault bytes 0 UnknownAction
  action_length : 4 ≤ length bytes → (size : ℕ) → IsSized (number_in 0 2 bytes) size → number_in 2 2 bytes ≢ size → ActionFault bytes 2 BadLength
  in_set : 4 ≤ length bytes → number_in 0 2 bytes ≡ 25 → (place : ℕ) (cause : PartCause) → SetFault bytes place cause → ActionFault bytes place cause

-- one action behind others
abbrev pub EachAction : List Action → Action → List ℕ → Type 0
EachAction before a bytes = SpellsAction a bytes

abbrev pub WrongAction : List Action → List ℕ → ℕ → PartCause → Type 0
WrongAction before rest place cause = ActionFault rest place cause

-- what is wrong with actions, but for an early end
abbrev pub ActionsFault : List ℕ → ℕ → PartCause → Type 0
ActionsFault bytes place cause = Behind EachAction (FaultOf WrongAction place cause) [] bytes

-- what is wrong with actions up to the end of the bytes
abbrev pub FaultInActions : List ℕ → ℕ → PartCause → Type 0
FaultInActions bytes place cause = OrShort (ActionsFault bytes) (Behind EachAction (EndsIn EndsEarly) [] bytes) bytes place cause

-- what is wrong with actions that begin at a place, whose end a length sets: this fault is told where
-- that cuts off an action in which nothing else is wrong
abbrev pub FaultInActionsAt : (at : ℕ) → PartFault → List ℕ → ℕ → PartCause → Type 0
FaultInActionsAt at past bytes = OrCut (From at (ActionsFault bytes)) (Behind EachAction (CutsOff EndsEarly WrongAction) [] bytes) past

-- ---- instructions (7.2.4)

-- the actions of an APPLY_ACTIONS, as far as they are there
abbrev pub applied : List ℕ → List ℕ
applied bytes = take (number_in 2 2 bytes - 8) (drop 8 bytes)

-- what is wrong with a GOTO_TABLE behind other instructions
pub data GotoFault (before : List Instr) (bytes : List ℕ) : ℕ → PartCause → Type 0 where
  goto_again : has_goto before ≡ true → GotoFault before bytes 0 Repeated
  goto_length : number_in 2 2 bytes ≢ 8 → GotoFault before bytes 2 BadLength

-- what is wrong with an APPLY_ACTIONS behind other instructions: its length is wrong too where its
-- end lies in the bytes and cuts off an action in which nothing else is wrong
pub data ApplyFault (before : List Instr) (bytes : List ℕ) : ℕ → PartCause → Type 0 where
  apply_again : has_apply before ≡ true → ApplyFault before bytes 0 Repeated
  apply_late : has_goto before ≡ true → ApplyFault before bytes 0 UnknownInstr
  apply_empty : number_in 2 2 bytes ≤ 8 → ApplyFault before bytes 2 BadLength
  apply_cut : number_in 2 2 bytes ≤ length bytes → Behind EachAction (CutsOff EndsEarly WrongAction) [] (applied bytes) → ApplyFault before bytes 2 BadLength
  in_action : (place : ℕ) (cause : PartCause) → ActionsFault (applied bytes) place cause → ApplyFault before bytes (8 + place) cause

-- what is wrong with the instruction at the front of the bytes, behind others
pub data InstrFault (before : List Instr) (bytes : List ℕ) : ℕ → PartCause → Type 0 where
  unknown_instr : 4 ≤ length bytes → number_in 0 2 bytes ≢ 1 → number_in 0 2 bytes ≢ 4 → InstrFault before bytes 0 UnknownInstr
  in_goto : 4 ≤ length bytes → number_in 0 2 bytes ≡ 1 → (place : ℕ) (cause : PartCause) → GotoFault before bytes place cause → InstrFault before bytes place cause
  in_apply : 4 ≤ length bytes → number_in 0 2 bytes ≡ 4 → (place : ℕ) (cause : PartCause) → ApplyFault before bytes place cause → InstrFault before bytes place cause

-- one instruction behind others
abbrev pub EachInstr : List Instr → Instr → List ℕ → Type 0
EachInstr before i bytes = SpellsInstr i bytes × MayFollow before i

-- what is wrong with instructions, but for an early end
abbrev pub InstrsFault : List ℕ → ℕ → PartCause → Type 0
InstrsFault bytes place cause = Behind EachInstr (FaultOf InstrFault place cause) [] bytes

-- what is wrong with instructions up to the end of the bytes
abbrev pub FaultInInstrs : List ℕ → ℕ → PartCause → Type 0
FaultInInstrs bytes place cause = OrShort (InstrsFault bytes) (Behind EachInstr (EndsIn EndsEarly) [] bytes) bytes place cause

-- ---- fields of a match (7.2.3.2)

-- the bytes end inside a field's header, or before the length that it gives
abbrev pub FieldEndsEarly : List ℕ → Type 0
FieldEndsEarly bytes = (length bytes < 4) ⊎ (length bytes < 4 + number_in 3 1 bytes)

-- what is wrong with the field at the front of the bytes, behind others. Only in a match that is
-- sent to a switch has it to be known and to stand behind its prerequisites.
pub data FieldFault (strict : Bool) (before : List (Option Field)) (bytes : List ℕ) : ℕ → PartCause → Type 0 where
  unknown_field : 4 ≤ length bytes → strict ≡ true → NamesNone 0 bytes → FieldFault strict before bytes 0 BadClass
  field_again : 4 ≤ length bytes → (id : FieldId) → Names 0 id bytes → stands id (known before) ≡ true → FieldFault strict before bytes 0 Repeated
  unprepared : 4 ≤ length bytes → strict ≡ true → (id : FieldId) → Names 0 id bytes → has_prerequisite id (known before) ≡ false → FieldFault strict before bytes 0 Prerequisite
  value_length : 4 ≤ length bytes → (id : FieldId) → Names 0 id bytes → number_in 2 1 bytes % 2 ≡ 0 → number_in 3 1 bytes ≢ byte_len_of id → FieldFault strict before bytes 3 BadLength
  mask_length : 4 ≤ length bytes → (id : FieldId) → Names 0 id bytes → number_in 2 1 bytes % 2 ≡ 1 → number_in 3 1 bytes ≢ 2 * byte_len_of id → FieldFault strict before bytes 3 BadLength

-- what is wrong with fields, but for an early end
abbrev pub FieldsFault : Bool → List ℕ → ℕ → PartCause → Type 0
FieldsFault strict bytes place cause = Behind (SpellsItem strict) (FaultOf (FieldFault strict) place cause) [] bytes

-- ---- matches (7.2.3.1)

-- the fields of a match, as far as they are there
abbrev pub fields_of : List ℕ → List ℕ
fields_of bytes = take (number_in 2 2 bytes - 4) (drop 4 bytes)

-- what is wrong with the match at the front of the bytes, but for an early end: its length is wrong
-- too where its end lies in the bytes and cuts off a field in which nothing else is wrong
pub data MatchFault (strict : Bool) (bytes : List ℕ) : ℕ → PartCause → Type 0 where
  match_type : 4 ≤ length bytes → number_in 0 2 bytes ≢ 1 → MatchFault strict bytes 0 BadClass
  match_length : 4 ≤ length bytes → number_in 2 2 bytes < 4 → MatchFault strict bytes 2 BadLength
  match_cut : number_in 2 2 bytes ≤ length bytes → Behind (SpellsItem strict) (CutsOff FieldEndsEarly (FieldFault strict)) [] (fields_of bytes) → MatchFault strict bytes 2 BadLength
  in_field : (place : ℕ) (cause : PartCause) → FieldsFault strict (fields_of bytes) place cause → MatchFault strict bytes (4 + place) cause
  match_padding : 4 ≤ number_in 2 2 bytes → (place : ℕ) → number_in 2 2 bytes ≤ place → place < up_to_8 (number_in 2 2 bytes) → place < length bytes → slice_index bytes place ≢ 0 → MatchFault strict bytes place BadPad

-- the bytes end inside a header of type and length, or before the padding up to a multiple of 8 does
abbrev pub PaddedEndsEarly : List ℕ → Type 0
PaddedEndsEarly bytes = (length bytes < 4) ⊎ (length bytes < up_to_8 (number_in 2 2 bytes))

-- what is wrong with the match at the front of the bytes
abbrev pub FaultInMatch : Bool → List ℕ → ℕ → PartCause → Type 0
FaultInMatch strict bytes place cause = OrShort (MatchFault strict bytes) (PaddedEndsEarly bytes) bytes place cause
