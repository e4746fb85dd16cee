-- How the private readers go: parts from the front of bytes, with the fault that is met. What the
-- public calls answer is fixed by Spelling and Faults alone. A fault's place counts from the first
-- byte of what the part stands in, so `at` is the place of the first byte given here.
use Rattle.std.specs.Prelude.{ℕ, zero, suc, ◌+◌, ◌-◌, ◌*◌, ◌/◌, ◌%◌, min, Bool, not, ◌&&◌, ◌||◌, ◌==◌, nat_lt, if◌then◌else◌, List, [], ◌∷◌, ◌++◌, length, take, drop, position, Option, Some, None, slice_range, Result, Ok, Err}
use Rattle.std.specs.List.{find}
use Rattle.net_base.specs.declared.field.Field.{Field}
use Rattle.net_base.specs.declared.field.FieldId.{FieldId}
use Rattle.net_base.specs.FieldId.{all_fields, number_of, byte_len_of, all_ones}
use Rattle.of_match.specs.declared.action.Action.{Action}
use Rattle.of_match.specs.declared.action.Action.TheVariants.{Output, PushVlan, PopVlan, DecTtl, Set}
use Rattle.of_match.specs.declared.action.Instr.{Instr}
use Rattle.of_match.specs.declared.action.Instr.TheVariants.{Goto, Apply}
use Rattle.net_base.specs.WellFormed.{has_prerequisite}
use Rattle.of_wire.specs.declared.fault.PartFault.{PartFault}
use Rattle.of_wire.specs.declared.fault.PartCause.TheVariants.{Short, BadClass, BadLength, BadPad, Repeated, Prerequisite, UnknownAction, UnknownInstr}
use Rattle.of_wire.specs.Numbers.{number_in}
use Rattle.of_wire.specs.Parts.{up_to_8}
use Rattle.of_wire.specs.Spelling.{stands, placed, has_goto, has_apply}
pub use Rattle.of_wire.specs.Answers.{Fails, Gives, fault_at}

-- ---- what reading gives

infixl 10 ◌>>=◌
abbrev pub ◌>>=◌ : {A B : Type 0} → Result A PartFault → (A → Result B PartFault) → Result B PartFault
(Ok x) >>= f = f x
(Err e) >>= f = Err e

-- parts one behind the other, up to the end of the bytes. A step reads one part and says how many
-- bytes it takes, at least one: so as many steps as there are bytes are enough.
unfoldable pub many : {S : Type 0} → (S → ℕ → List ℕ → Result (S × ℕ) PartFault) → ℕ → S → ℕ → List ℕ → Result S PartFault
many step zero s at bytes = Ok s
many step (suc steps) s at bytes =
    if length bytes == 0 then Ok s else (step s at bytes >>= λ x. many step steps x.0 (at + x.1) (drop x.1 bytes))

-- what runs past the end that a length sets: the length is wrong if that end is inside the bytes,
-- else the bytes are short
unfoldable pub past_end : (len there : ℕ) → (wrong short : PartFault) → PartFault
past_end len there wrong short = if nat_lt there len then short else wrong

-- the place of the first byte that isn't zero
abbrev pub first_nonzero : List ℕ → Option ℕ
first_nonzero bytes = position (λ b. not (b == 0)) bytes

abbrev pub padded_to : Option ℕ → PartFault → (at from to there : ℕ) → Result ℕ PartFault
padded_to (Some i) past at from to there = Err (fault_at (at + from + i) BadPad)
padded_to None past at from to there = if nat_lt there to then Err past else Ok to

-- padding has to be zero, as far as it is there, and then it has to be there
unfoldable pub padding_at : PartFault → (at from to : ℕ) → List ℕ → Result ℕ PartFault
padding_at past at from to bytes =
    padded_to (first_nonzero (slice_range bytes (min from (length bytes)) (min to (length bytes)))) past at from to (length bytes)

-- ---- matches (7.2.3)

-- the field with a number (7.2.3.7)
unfoldable pub field_numbered : ℕ → Option FieldId
field_numbered n = find (λ id. number_of id == n) all_fields

-- the field that a header names (7.2.3.2): of the class of basic fields, by its number
unfoldable pub field_named : List ℕ → Option FieldId
field_named bytes = if number_in 0 2 bytes == 0x8000 then field_numbered (number_in 2 1 bytes / 2) else None

-- whether a header says that a mask follows, and how many bytes follow it
abbrev pub has_mask : List ℕ → Bool
has_mask bytes = number_in 2 1 bytes % 2 == 1

abbrev pub payload_len : List ℕ → ℕ
payload_len bytes = number_in 3 1 bytes

-- how many bytes have to follow
abbrev pub wanted_len : FieldId → Bool → ℕ
wanted_len id masked = if masked then 2 * byte_len_of id else byte_len_of id

-- value and mask behind a header
unfoldable pub field_value : FieldId → List ℕ → Field
field_value id bytes = record {
  id = id;
  value = number_in 4 (byte_len_of id) bytes;
  mask = (if has_mask bytes then number_in (4 + byte_len_of id) (byte_len_of id) bytes else all_ones id);
}

-- a known field: its length is that of its value, and of its mask where it has one
unfoldable pub known_field : PartFault → FieldId → ℕ → List ℕ → Result Field PartFault
known_field past id at bytes =
    if payload_len bytes == wanted_len id (has_mask bytes) then (
    if nat_lt (length bytes) (4 + payload_len bytes) then Err past else Ok (field_value id bytes))
    else Err (fault_at (at + 3) BadLength)

-- a known field comes once, and, where this is asked, behind its prerequisites
unfoldable pub known_step : Bool → PartFault → FieldId → List Field → ℕ → List ℕ → Result (List Field × ℕ) PartFault
known_step strict past id fields at bytes =
    if stands id fields then Err (fault_at at Repeated) else (
    if strict && not (has_prerequisite id fields) then Err (fault_at at Prerequisite) else (
    known_field past id at bytes >>= λ f. Ok (placed f fields, 4 + payload_len bytes)))

-- a field that isn't known is refused, or passed over
unfoldable pub unknown_step : Bool → PartFault → List Field → ℕ → List ℕ → Result (List Field × ℕ) PartFault
unknown_step strict past fields at bytes =
    if strict then Err (fault_at at BadClass) else (
    if nat_lt (length bytes) (4 + payload_len bytes) then Err past else Ok (fields, 4 + payload_len bytes))

abbrev pub named_step : Option FieldId → Bool → PartFault → List Field → ℕ → List ℕ → Result (List Field × ℕ) PartFault
named_step (Some id) strict past fields at bytes = known_step strict past id fields at bytes
named_step None strict past fields at bytes = unknown_step strict past fields at bytes

-- one field more
unfoldable pub field_step : Bool → PartFault → List Field → ℕ → List ℕ → Result (List Field × ℕ) PartFault
field_step strict past fields at bytes =
    if nat_lt (length bytes) 4 then Err past else named_step (field_named bytes) strict past fields at bytes

-- the fields of a match whose length is this
unfoldable pub fields_at : Bool → (len at : ℕ) → List ℕ → Result (List Field) PartFault
fields_at strict len at bytes =
    let region = take (len - 4) (drop 4 bytes) in
    many (field_step strict (past_end len (length bytes) (fault_at (at + 2) BadLength) (fault_at (at + length bytes) Short))) (length region) [] (at + 4) region

-- a match (7.2.3.1): its type, its length, its fields, and padding; with its fields, how many bytes it takes
unfoldable pub sized_match_at : Bool → (len at : ℕ) → List ℕ → Result (List Field × ℕ) PartFault
sized_match_at strict len at bytes = do
  fields ← fields_at strict len at bytes
  taken ← padding_at (fault_at (at + length bytes) Short) at len (up_to_8 len) bytes
  Ok (fields, taken)

unfoldable pub match_at : Bool → ℕ → List ℕ → Result (List Field × ℕ) PartFault
match_at strict at bytes =
    if nat_lt (length bytes) 4 then Err (fault_at (at + length bytes) Short) else (
    if not (number_in 0 2 bytes == 1) then Err (fault_at at BadClass) else (
    if nat_lt (number_in 2 2 bytes) 4 then Err (fault_at (at + 2) BadLength) else
    sized_match_at strict (number_in 2 2 bytes) at bytes))

-- ---- actions (7.2.5)

-- the action that sets a field, whose length this is: its length is that of a field without a mask, with padding
unfoldable pub set_named : Option FieldId → PartFault → (len at : ℕ) → List ℕ → Result (Action × ℕ) PartFault
set_named None past len at bytes = Err (fault_at (at + 4) BadClass)
set_named (Some id) past len at bytes =
    if has_mask (drop 4 bytes) || not (payload_len (drop 4 bytes) == byte_len_of id) then Err (fault_at (at + 7) BadLength) else (
    padding_at past at (8 + byte_len_of id) len bytes >>= λ taken. Ok (Set (field_value id (drop 4 bytes)), taken))

unfoldable pub set_at : PartFault → (len at : ℕ) → List ℕ → Result (Action × ℕ) PartFault
set_at past len at bytes =
    if nat_lt len 8 then Err (fault_at (at + 2) BadLength) else (
    if nat_lt (length bytes) 8 then Err past else (
    if not (len == up_to_8 (8 + payload_len (drop 4 bytes))) then Err (fault_at (at + 2) BadLength) else
    set_named (field_named (drop 4 bytes)) past len at bytes))

-- a length that is fixed
unfoldable pub sized_at : PartFault → (size len at : ℕ) → List ℕ → Result ℕ PartFault
sized_at past size len at bytes =
    if not (len == size) then Err (fault_at (at + 2) BadLength) else (
    if nat_lt (length bytes) size then Err past else Ok size)

unfoldable pub output_at : PartFault → (len at : ℕ) → List ℕ → Result (Action × ℕ) PartFault
output_at past len at bytes = sized_at past 16 len at bytes >>= λ n. Ok (Output (number_in 4 4 bytes) (number_in 8 2 bytes), n)

unfoldable pub push_at : PartFault → (len at : ℕ) → List ℕ → Result (Action × ℕ) PartFault
push_at past len at bytes = sized_at past 8 len at bytes >>= λ n. Ok (PushVlan (number_in 4 2 bytes), n)

-- an action that has nothing but its type
unfoldable pub bare_at : PartFault → Action → (len at : ℕ) → List ℕ → Result (Action × ℕ) PartFault
bare_at past action len at bytes = sized_at past 8 len at bytes >>= λ n. Ok (action, n)

-- an action of a type
unfoldable pub action_of : ℕ → PartFault → (len at : ℕ) → List ℕ → Result (Action × ℕ) PartFault
action_of kind past len at bytes =
    if kind == 0 then output_at past len at bytes else (
    if kind == 17 then push_at past len at bytes else (
    if kind == 18 then bare_at past PopVlan len at bytes else (
    if kind == 24 then bare_at past DecTtl len at bytes else (
    if kind == 25 then set_at past len at bytes else Err (fault_at at UnknownAction)))))

unfoldable pub action_at : PartFault → ℕ → List ℕ → Result (Action × ℕ) PartFault
action_at past at bytes =
    if nat_lt (length bytes) 4 then Err past else action_of (number_in 0 2 bytes) past (number_in 2 2 bytes) at bytes

-- one action more
unfoldable pub action_step : PartFault → List Action → ℕ → List ℕ → Result (List Action × ℕ) PartFault
action_step past actions at bytes = action_at past at bytes >>= λ x. Ok (actions ++ x.0 ∷ [], x.1)

-- actions up to the end of the bytes
unfoldable pub actions_at : PartFault → ℕ → List ℕ → Result (List Action) PartFault
actions_at past at bytes = many (action_step past) (length bytes) [] at bytes

-- ---- instructions (7.2.4)

-- GOTO_TABLE, once
unfoldable pub goto_at : PartFault → List Instr → (len at : ℕ) → List ℕ → Result (Instr × ℕ) PartFault
goto_at past instrs len at bytes =
    if has_goto instrs then Err (fault_at at Repeated) else (
    if not (len == 8) then Err (fault_at (at + 2) BadLength) else (
    if nat_lt (length bytes) 8 then Err past else Ok (Goto (number_in 4 1 bytes), 8)))

-- the actions of an APPLY_ACTIONS whose length this is
unfoldable pub applied_at : PartFault → (len at : ℕ) → List ℕ → Result (Instr × ℕ) PartFault
applied_at past len at bytes =
    actions_at (past_end len (length bytes) (fault_at (at + 2) BadLength) past) (at + 8) (take (len - 8) (drop 8 bytes)) >>= λ actions.
    (if nat_lt (length bytes) len then Err past else Ok (Apply actions, len))

-- APPLY_ACTIONS, once and first, with at least one action
unfoldable pub apply_at : PartFault → List Instr → (len at : ℕ) → List ℕ → Result (Instr × ℕ) PartFault
apply_at past instrs len at bytes =
    if has_apply instrs then Err (fault_at at Repeated) else (
    if has_goto instrs then Err (fault_at at UnknownInstr) else (
    if not (nat_lt 8 len) then Err (fault_at (at + 2) BadLength) else (
    if nat_lt (length bytes) 8 then Err past else applied_at past len at bytes)))

unfoldable pub instr_of : ℕ → PartFault → List Instr → (len at : ℕ) → List ℕ → Result (Instr × ℕ) PartFault
instr_of kind past instrs len at bytes =
    if kind == 1 then goto_at past instrs len at bytes else (
    if kind == 4 then apply_at past instrs len at bytes else Err (fault_at at UnknownInstr))

unfoldable pub instr_at : PartFault → List Instr → ℕ → List ℕ → Result (Instr × ℕ) PartFault
instr_at past instrs at bytes =
    if nat_lt (length bytes) 4 then Err past else instr_of (number_in 0 2 bytes) past instrs (number_in 2 2 bytes) at bytes

-- one instruction more
unfoldable pub instr_step : PartFault → List Instr → ℕ → List ℕ → Result (List Instr × ℕ) PartFault
instr_step past instrs at bytes = instr_at past instrs at bytes >>= λ x. Ok (instrs ++ x.0 ∷ [], x.1)

-- instructions up to the end of the bytes
unfoldable pub instrs_at : ℕ → List ℕ → Result (List Instr) PartFault
instrs_at at bytes = many (instr_step (fault_at (at + length bytes) Short)) (length bytes) [] at bytes
