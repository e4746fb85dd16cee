-- What is wrong with a flow list or map, with a key and with a value on one line, and where. Several
-- faults may stand in the same bytes. Columns count from the first byte of the part.
use Rattle.std.specs.Prelude.{◌≡◌, ◌⊎◌, ℕ, zero, suc, Bool, true, false, ◌||◌, ◌&&◌, ◌+◌, ◌-◌, List, [], ◌∷◌, ◌++◌, length, drop, Ok, Err}
use Rattle.yaml_subset.specs.declared.fault.YamlForm.TheVariants.{LongFlow, Wide}
use Rattle.yaml_subset.specs.declared.fault.YamlCause.{YamlCause}
use Rattle.yaml_subset.specs.declared.fault.YamlCause.TheVariants.{TooDeep, Tab, LeftOut, DuplicateKey, Syntax}
use Rattle.yaml_subset.specs.declared.scalars.Scanned.{Scanned}
use Rattle.yaml_tree.specs.declared.tree.Tree.{Tree}
use Rattle.yaml_tree.specs.declared.tree.Key.{Key}
use Rattle.yaml_tree.specs.declared.tree.Pair.{Pair}
use Rattle.yaml_subset.specs.Characters.{is_empty, begins, marks, next_part}
use Rattle.yaml_subset.specs.Scalars.{is_wide, scan, key_of}
use Rattle.yaml_subset.specs.Entries.{has_key}
use Rattle.yaml_subset.specs.Flow.{opens, line_ends, colon_and_tab}
use Rattle.yaml_subset.specs.LineValue.{IsScalar, IsFlowItem, IsFlowEntry, IsFlowValue, IsNested, IsFlow}
use Rattle.yaml_subset.specs.ScalarFaults.{NextFault, LineEndFault, ScanFault, ScalarFault}

-- ---- one part behind another

-- a fault in the part behind spaces; it is nothing where a comment or the line's end comes
pub record BehindSpaces (fresh : Bool) (rest : List ℕ) (In : List ℕ → ℕ → YamlCause → Type 0) (at : ℕ) (cause : YamlCause) : Type 0 where
  pub part : List ℕ
  pub is : next_part fresh rest ≡ Ok part
  pub inside : ℕ
  pub place : at ≡ (length rest - length part) + inside
  pub fault : In part inside cause

-- a fault in the spaces and the comment before a part, or in the part
abbrev pub InPart : Bool → List ℕ → (List ℕ → ℕ → YamlCause → Type 0) → ℕ → YamlCause → Type 0
InPart fresh rest In at cause = NextFault fresh rest at cause ⊎ BehindSpaces fresh rest In at cause

-- a fault in what follows a value
pub record BehindValue {V : Type 0} (Value : List ℕ → V → List ℕ → Type 0) (rest : List ℕ) (In : V → List ℕ → ℕ → YamlCause → Type 0) (at : ℕ) (cause : YamlCause) : Type 0 where
  pub value : V
  pub after : List ℕ
  pub is : Value rest value after
  pub inside : ℕ
  pub place : at ≡ (length rest - length after) + inside
  pub fault : In value after inside cause

-- ---- keys

-- what is wrong behind a scalar that has to be a key, where no colon with a space or the line's end follows
pub data ColonFault (flow : Bool) (s : Scanned) (after : List ℕ) (at : ℕ) (cause : YamlCause) : Type 0 where
  colon_past_end : flow ≡ true → line_ends s after ≡ true → at ≡ length after → cause ≡ LeftOut LongFlow → ColonFault flow s after at cause
  tab_for_colon : s.plain ≡ false → begins 9 after ≡ true → at ≡ 0 → cause ≡ Tab → ColonFault flow s after at cause
  tab_behind_colon : colon_and_tab s after ≡ true → at ≡ 1 → cause ≡ Tab → ColonFault flow s after at cause
  no_colon : flow && line_ends s after ≡ false → colon_and_tab s after ≡ false → at ≡ 0 → cause ≡ Syntax → ColonFault flow s after at cause

-- A scalar before a colon is no key, or one of these entries has it: `<<`, a number outside i128, what is
-- neither a whole number nor a text, and a key that stands twice.
pub data NoNewKey (before : List Pair) (s : Scanned) (cause : YamlCause) : Type 0 where
  no_key : key_of s ≡ Err cause → NoNewKey before s cause
  key_again : (k : Key) → key_of s ≡ Ok k → has_key before k ≡ true → cause ≡ DuplicateKey → NoNewKey before s cause

-- what is wrong with a key behind these entries; behind a whole number outside i128 nothing more is
pub data KeyFault (flow : Bool) (before : List Pair) (rest : List ℕ) (at : ℕ) (cause : YamlCause) : Type 0 where
  in_key : ScanFault flow rest at cause → KeyFault flow before rest at cause
  wide_alone : (s : Scanned) (after : List ℕ) → scan flow rest ≡ Ok (s, after) → marks 58 after ≡ false → is_wide s ≡ true → at ≡ 0 → cause ≡ LeftOut Wide → KeyFault flow before rest at cause
  behind_key : BehindValue (λ start s after. scan flow start ≡ Ok (s, after)) rest (λ s after inside c. (marks 58 after ≡ false) × (is_wide s ≡ false) × ColonFault flow s after inside c) at cause → KeyFault flow before rest at cause
  at_key : (s : Scanned) (after : List ℕ) → scan flow rest ≡ Ok (s, after) → marks 58 after ≡ true → at ≡ 0 → NoNewKey before s cause → KeyFault flow before rest at cause

-- a key that none of these entries has, and what follows its colon
pub record IsNewKey (flow : Bool) (before : List Pair) (rest : List ℕ) (k : Key) (after : List ℕ) : Type 0 where
  pub scanned : Scanned
  pub colon_at : List ℕ
  pub scalar : scan flow rest ≡ Ok (scanned, colon_at)
  pub colon : marks 58 colon_at ≡ true
  pub key : key_of scanned ≡ Ok k
  pub first : has_key before k ≡ false
  pub behind : after ≡ drop 1 colon_at

-- ---- flow lists and maps

-- a bracket is open at the line's end
abbrev pub IsOpen : List ℕ → ℕ → YamlCause → Type 0
IsOpen part at cause = (part ≡ []) × (at ≡ 0) × (cause ≡ LeftOut LongFlow)

-- what is wrong where a comma or the closing bracket has to stand
pub data SeparatorFault (closing : ℕ) (part : List ℕ) (at : ℕ) (cause : YamlCause) : Type 0 where
  separator_open : IsOpen part at cause → SeparatorFault closing part at cause
  tab_for_separator : begins 9 part ≡ true → begins closing part ≡ false → at ≡ 0 → cause ≡ Tab → SeparatorFault closing part at cause
  no_separator : is_empty part ≡ false → begins closing part ≡ false → begins 44 part ≡ false → at ≡ 0 → cause ≡ Syntax → SeparatorFault closing part at cause

-- what is wrong where an item or an entry may begin, or the closing bracket stand
pub data StartFault (closing : ℕ) (In : List ℕ → ℕ → YamlCause → Type 0) (part : List ℕ) (at : ℕ) (cause : YamlCause) : Type 0 where
  start_open : IsOpen part at cause → StartFault closing In part at cause
  in_start : is_empty part ≡ false → begins closing part ≡ false → In part at cause → StartFault closing In part at cause

-- a fault in a value, or where a comma or the closing bracket has to stand behind it
abbrev pub PartedFault : ℕ → (List ℕ → Tree → List ℕ → Type 0) → (List ℕ → ℕ → YamlCause → Type 0) → List ℕ → ℕ → YamlCause → Type 0
PartedFault closing Value Wrong start at cause = Wrong start at cause ⊎ BehindValue Value start (λ v after. InPart false after (SeparatorFault closing)) at cause

-- what is wrong with the item that may begin here
abbrev pub ItemFault : (List ℕ → Tree → List ℕ → Type 0) → (List ℕ → ℕ → YamlCause → Type 0) → List ℕ → ℕ → YamlCause → Type 0
ItemFault Value Wrong inside at cause = InPart false inside (StartFault 93 (PartedFault 93 Value Wrong)) at cause

-- a fault behind these items, each with its comma
abbrev pub ItemsFault : (Value : List ℕ → Tree → List ℕ → Type 0) → (List ℕ → ℕ → YamlCause → Type 0) → List Tree → List ℕ → ℕ → YamlCause → Type 0
ItemsFault Value Wrong [] inside at cause = ItemFault Value Wrong inside at cause
ItemsFault Value Wrong (v ∷ vs) inside at cause = (next : List ℕ) × IsFlowItem Value inside v (44 ∷ next)
    × (there : ℕ) × (at ≡ (length inside - length next) + there) × ItemsFault Value Wrong vs next there cause

-- the value of an entry may be nothing
abbrev pub WrongValue : (List ℕ → ℕ → YamlCause → Type 0) → List ℕ → ℕ → YamlCause → Type 0
WrongValue Wrong part at cause = (begins 44 part || begins 125 part ≡ false) × Wrong part at cause

-- what is wrong behind the colon of an entry
pub data EntryValueFault (Value : List ℕ → Tree → List ℕ → Type 0) (Wrong : List ℕ → ℕ → YamlCause → Type 0) (part : List ℕ) (at : ℕ) (cause : YamlCause) : Type 0 where
  value_open : IsOpen part at cause → EntryValueFault Value Wrong part at cause
  in_value : is_empty part ≡ false → PartedFault 125 (IsFlowValue Value) (WrongValue Wrong) part at cause → EntryValueFault Value Wrong part at cause

-- what is wrong with an entry behind these ones
abbrev pub FlowEntryFault : (List ℕ → Tree → List ℕ → Type 0) → (List ℕ → ℕ → YamlCause → Type 0) → List Pair → List ℕ → ℕ → YamlCause → Type 0
FlowEntryFault Value Wrong before start at cause = KeyFault true before start at cause
    ⊎ BehindValue (IsNewKey true before) start (λ k after. InPart false after (EntryValueFault Value Wrong)) at cause

-- a fault behind these entries, each with its comma
abbrev pub EntriesFault : (Value : List ℕ → Tree → List ℕ → Type 0) → (List ℕ → ℕ → YamlCause → Type 0) → List Pair → List Pair → List ℕ → ℕ → YamlCause → Type 0
EntriesFault Value Wrong before [] inside at cause = InPart false inside (StartFault 125 (FlowEntryFault Value Wrong before)) at cause
EntriesFault Value Wrong before (p ∷ ps) inside at cause = (next : List ℕ) × IsFlowEntry Value before inside p (44 ∷ next)
    × (there : ℕ) × (at ≡ (length inside - length next) + there) × EntriesFault Value Wrong (before ++ p ∷ []) ps next there cause

-- what is wrong with a value within flow brackets: a scalar, or what is nested
abbrev pub NestedFault : (List ℕ → ℕ → YamlCause → Type 0) → List ℕ → ℕ → YamlCause → Type 0
NestedFault Wrong rest at cause = ((opens rest ≡ false) × ScalarFault true rest at cause) ⊎ Wrong rest at cause

-- what is wrong with a flow list or a flow map, behind its opening bracket
pub data BracketFault (Value : List ℕ → Tree → List ℕ → Type 0) (Wrong : List ℕ → ℕ → YamlCause → Type 0) (rest : List ℕ) (at : ℕ) (cause : YamlCause) : Type 0 where
  in_list : (inside : List ℕ) → rest ≡ 91 ∷ inside → (items : List Tree) (there : ℕ) → at ≡ 1 + there → ItemsFault Value Wrong items inside there cause → BracketFault Value Wrong rest at cause
  in_map : (inside : List ℕ) → rest ≡ 123 ∷ inside → (pairs : List Pair) (there : ℕ) → at ≡ 1 + there → EntriesFault Value Wrong [] pairs inside there cause → BracketFault Value Wrong rest at cause

-- what is wrong with a flow list or map where so many lists and maps may be nested, itself among them
abbrev pub FlowFault : ℕ → List ℕ → ℕ → YamlCause → Type 0
FlowFault zero rest at cause = (opens rest ≡ true) × (at ≡ 0) × (cause ≡ TooDeep)
FlowFault (suc levels) rest at cause = BracketFault (IsNested (IsFlow levels)) (NestedFault (FlowFault levels)) rest at cause

-- ---- a value on one line

-- a scalar, a flow list or a flow map, and what follows it
abbrev pub IsValue : ℕ → List ℕ → Tree → List ℕ → Type 0
IsValue levels part v after = IsScalar false part v after ⊎ IsFlow levels part v after

-- what is wrong with a value up to the line's end
pub data LineValueFault (levels : ℕ) (part : List ℕ) (at : ℕ) (cause : YamlCause) : Type 0 where
  in_flow_value : opens part ≡ true → FlowFault levels part at cause → LineValueFault levels part at cause
  in_scalar_value : opens part ≡ false → ScalarFault false part at cause → LineValueFault levels part at cause
  behind_value : BehindValue (IsValue levels) part (λ v after. LineEndFault after) at cause → LineValueFault levels part at cause
