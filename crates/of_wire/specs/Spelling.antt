-- What bytes spell a match, actions and instructions (OpenFlow 1.3, 7.2).
use Rattle.std.specs.Prelude.{◌≡◌, ℕ, ◌+◌, ◌-◌, ◌*◌, ◌/◌, ◌<◌, Bool, true, false, ◌==◌, nat_lt, List, [], ◌∷◌, ◌++◌, length, insert, position, Option, Some, None, ◌⊎◌}
use Rattle.std.specs.List.{list_any}
use Rattle.net_base.specs.declared.field.Field.{Field}
use Rattle.net_base.specs.declared.field.FieldId.{FieldId}
use Rattle.net_base.specs.FieldId.{number_of, byte_len_of, all_ones}
use Rattle.of_match.specs.declared.action.Action.{Action}
use Rattle.of_match.specs.declared.action.Action.TheVariants.{Output, PushVlan, PopVlan, DecTtl, Set}
use Rattle.of_match.specs.declared.action.Instr.{Instr}
use Rattle.of_match.specs.declared.action.Instr.TheVariants.{Goto, Apply}
use Rattle.net_base.specs.WellFormed.{has_prerequisite}
use Rattle.of_wire.specs.Parts.{up_to_8}
use Rattle.of_wire.specs.Grammar.{◌▷◌, Number, Ignored, Zeros, Joined}

-- ---- fields of a match (7.2.3.2)

-- a field without a mask, which leaves no bit of it out: class, number, length and value
pub record SpellsPlain (f : Field) (bytes : List ℕ) : Type 0 where
  pub parts : (Number 2 0x8000 ▷ Number 1 (2 * number_of f.id) ▷ Number 1 (byte_len_of f.id) ▷ Number (byte_len_of f.id) f.value) bytes
  pub whole_mask : f.mask ≡ all_ones f.id

-- a field with its mask, behind a number with the mask flag; a mask of all ones may stand there too
abbrev pub SpellsMasked : Field → List ℕ → Type 0
SpellsMasked f bytes =
    (Number 2 0x8000 ▷ Number 1 (2 * number_of f.id + 1) ▷ Number 1 (2 * byte_len_of f.id) ▷ Number (byte_len_of f.id) f.value ▷ Number (byte_len_of f.id) f.mask) bytes

abbrev pub SpellsField : Field → List ℕ → Type 0
SpellsField f bytes = SpellsPlain f bytes ⊎ SpellsMasked f bytes

-- a field of another class, or of a number that isn't known: its length says how many bytes follow
pub record SpellsUnknown (bytes : List ℕ) : Type 0 where
  pub class : ℕ
  pub head : ℕ
  pub len : ℕ
  pub parts : (Number 2 class ▷ Number 1 head ▷ Number 1 len ▷ Ignored len) bytes
  pub unknown : (id : FieldId) → class ≡ 0x8000 → head / 2 ≡ number_of id → ⊥

-- the fields that are known, among all that stand there
abbrev pub known : List (Option Field) → List Field
known [] = []
known (Some f ∷ more) = f ∷ known more
known (None ∷ more) = known more

-- whether a field stands there already
abbrev pub stands : FieldId → List Field → Bool
stands id fields = list_any (λ f. number_of f.id == number_of id) fields

-- the place of the first field above a number
abbrev pub first_above : ℕ → List Field → Option ℕ
first_above number fields = position (λ g. nat_lt number (number_of g.id)) fields

abbrev pub placed_at : Option ℕ → Field → List Field → List Field
placed_at (Some at) f fields = insert fields at f
placed_at None f fields = fields ++ f ∷ []

-- a field in its place among fields in ascending order of their numbers
unfoldable pub placed : Field → List Field → List Field
placed f fields = placed_at (first_above (number_of f.id) fields) f fields

-- fields in ascending order of their numbers
abbrev pub in_order_onto : List Field → List Field → List Field
in_order_onto sorted [] = sorted
in_order_onto sorted (f ∷ more) = in_order_onto (placed f sorted) more

abbrev pub in_order : List Field → List Field
in_order fields = in_order_onto [] fields

-- a field comes once, and behind its prerequisites (7.2.3.6). In a match that a switch reports it
-- needs none, and fields that aren't known may stand there.
pub record MayStand (strict : Bool) (before : List Field) (f : Field) : Type 0 where
  pub once : stands f.id before ≡ false
  pub prerequisites : strict ≡ true → has_prerequisite f.id before ≡ true

abbrev pub SpellsItem : Bool → List (Option Field) → Option Field → List ℕ → Type 0
SpellsItem strict before (Some f) bytes = SpellsField f bytes × MayStand strict (known before) f
SpellsItem strict before None bytes = SpellsUnknown bytes × (strict ≡ false)

-- ---- matches (7.2.3.1)

-- its type, its length without the padding, its fields in any order, and zeros up to a multiple of 8
pub record SpellsAnyMatch (strict : Bool) (fields : List Field) (bytes : List ℕ) : Type 0 where
  pub items : List (Option Field)
  pub len : ℕ
  pub parts : (Number 2 1 ▷ Number 2 len ▷ (λ body. (4 + length body ≡ len) × Joined (SpellsItem strict) [] items body) ▷ Zeros (up_to_8 len - len)) bytes
  pub sorted : fields ≡ in_order (known items)

-- a match that is sent to a switch, and one that a switch reports
abbrev pub SpellsMatch : List Field → List ℕ → Type 0
SpellsMatch fields bytes = SpellsAnyMatch true fields bytes

abbrev pub SpellsMatchSeen : List Field → List ℕ → Type 0
SpellsMatchSeen fields bytes = SpellsAnyMatch false fields bytes

-- ---- actions (7.2.5)

-- the action that sets a field, which has no mask: its length counts the padding
abbrev pub SpellsSet : Field → List ℕ → Type 0
SpellsSet f bytes =
    (Number 2 25 ▷ Number 2 (up_to_8 (8 + byte_len_of f.id)) ▷ SpellsPlain f ▷ Zeros (up_to_8 (8 + byte_len_of f.id) - (8 + byte_len_of f.id))) bytes

abbrev pub SpellsAction : Action → List ℕ → Type 0
SpellsAction (Output port max_len) bytes = (Number 2 0 ▷ Number 2 16 ▷ Number 4 port ▷ Number 2 max_len ▷ Ignored 6) bytes
SpellsAction (PushVlan eth_type) bytes = (Number 2 17 ▷ Number 2 8 ▷ Number 2 eth_type ▷ Ignored 2) bytes
SpellsAction PopVlan bytes = (Number 2 18 ▷ Number 2 8 ▷ Ignored 4) bytes
SpellsAction DecTtl bytes = (Number 2 24 ▷ Number 2 8 ▷ Ignored 4) bytes
SpellsAction (Set f) bytes = SpellsSet f bytes

abbrev pub SpellsActions : List Action → List ℕ → Type 0
SpellsActions actions bytes = Joined (λ before a. SpellsAction a) [] actions bytes

-- ---- instructions (7.2.4)

-- the length of APPLY_ACTIONS counts all of it, and it has at least one action
abbrev pub SpellsInstr : Instr → List ℕ → Type 0
SpellsInstr (Goto table) bytes = (Number 2 1 ▷ Number 2 8 ▷ Number 1 table ▷ Ignored 3) bytes
SpellsInstr (Apply actions) bytes = (Number 2 4 ▷ Number 2 (length bytes) ▷ Ignored 4 ▷ SpellsActions actions) bytes × (0 < length actions)

-- what stands among instructions
abbrev pub is_goto : Instr → Bool
is_goto (Goto table) = true
is_goto (Apply actions) = false

abbrev pub has_goto : List Instr → Bool
has_goto instrs = list_any is_goto instrs

abbrev pub is_apply : Instr → Bool
is_apply (Goto table) = false
is_apply (Apply actions) = true

abbrev pub has_apply : List Instr → Bool
has_apply instrs = list_any is_apply instrs

-- each comes once, and APPLY_ACTIONS before GOTO_TABLE
abbrev pub MayFollow : List Instr → Instr → Type 0
MayFollow before (Goto table) = has_goto before ≡ false
MayFollow before (Apply actions) = (has_apply before ≡ false) × (has_goto before ≡ false)

abbrev pub SpellsInstrs : List Instr → List ℕ → Type 0
SpellsInstrs instrs bytes = Joined (λ before i bytes. SpellsInstr i bytes × MayFollow before i) [] instrs bytes
