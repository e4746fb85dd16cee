-- How the parts of a message are spelled (OpenFlow 1.3, 7.2). All numbers stand with their highest
-- byte first (2), and padding is zeros.
use Rattle.std.specs.Prelude.{ℕ, ◌+◌, ◌-◌, ◌*◌, ◌%◌, ◌==◌, if◌then◌else◌, List, ◌++◌, length, replicate}
use Rattle.std.specs.List.{flat_map}
use Rattle.byteorder.specs.Endian.{big_bytes}
use Rattle.net_base.specs.declared.field.Field.{Field}
use Rattle.net_base.specs.FieldId.{number_of, byte_len_of, all_ones}
use Rattle.of_match.specs.declared.action.Action.{Action}
use Rattle.of_match.specs.declared.action.Action.TheVariants.{Output, PushVlan, PopVlan, DecTtl, Set}
use Rattle.of_match.specs.declared.action.Instr.{Instr}
use Rattle.of_match.specs.declared.action.Instr.TheVariants.{Goto, Apply}

-- the lowest bytes of a number, so many of them, the highest first (2)
unfoldable pub number : ℕ → ℕ → List ℕ
number len value = big_bytes len value

abbrev pub zeros : ℕ → List ℕ
zeros n = replicate n 0

-- bytes, and zeros up to a multiple of 8
abbrev pub padded : List ℕ → List ℕ
padded bytes = bytes ++ zeros ((8 - length bytes % 8) % 8)

-- a field of a match (7.2.3.2): class, number and mask flag, length, value, and the mask where it
-- leaves a bit out
abbrev pub field_bytes : Field → List ℕ
field_bytes f =
    let len = byte_len_of f.id in
    if f.mask == all_ones f.id
    then number 2 0x8000 ++ number 1 (2 * number_of f.id) ++ number 1 len ++ number len f.value
    else number 2 0x8000 ++ number 1 (2 * number_of f.id + 1) ++ number 1 (2 * len) ++ number len f.value ++ number len f.mask

-- a match (7.2.3.1): its type, its length without the padding, and its fields
abbrev pub match_bytes : List Field → List ℕ
match_bytes fields = padded (number 2 1 ++ number 2 (4 + length (flat_map field_bytes fields)) ++ flat_map field_bytes fields)

-- a length up to a multiple of 8
abbrev pub up_to_8 : ℕ → ℕ
up_to_8 n = n + (8 - n % 8) % 8

-- an action that has nothing but its type
abbrev pub bare_action : ℕ → List ℕ
bare_action kind = number 2 kind ++ number 2 8 ++ zeros 4

-- the action that sets a field (7.2.5): its length counts the padding
abbrev pub set_bytes : Field → List ℕ
set_bytes f = padded (number 2 25 ++ number 2 (up_to_8 (4 + length (field_bytes f))) ++ field_bytes f)

-- an action (7.2.5): its type, its length, and what it says
abbrev pub action_bytes : Action → List ℕ
action_bytes (Output port max_len) = number 2 0 ++ number 2 16 ++ number 4 port ++ number 2 max_len ++ zeros 6
action_bytes (PushVlan eth_type) = number 2 17 ++ number 2 8 ++ number 2 eth_type ++ zeros 2
action_bytes PopVlan = bare_action 18
action_bytes DecTtl = bare_action 24
action_bytes (Set f) = set_bytes f

-- an instruction (7.2.4): its type, its length, and the table or the actions
abbrev pub instr_bytes : Instr → List ℕ
instr_bytes (Goto table) = number 2 1 ++ number 2 8 ++ number 1 table ++ zeros 3
instr_bytes (Apply actions) = number 2 4 ++ number 2 (8 + length (flat_map action_bytes actions)) ++ zeros 4 ++ flat_map action_bytes actions
