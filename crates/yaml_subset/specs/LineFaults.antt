-- What is wrong with a line behind the lines of an accepted text, and where. Several faults may stand in
-- one line. Columns count from the first byte of the part, those of a line from its first byte.
use Rattle.std.specs.Prelude.{◌≡◌, ◌⊎◌, ℕ, zero, suc, Bool, true, false, ◌||◌, ◌&&◌, not, ◌==◌, if◌then◌else◌, ◌+◌, ◌-◌, ◌<◌, List, [], ◌∷◌, length, drop, Option, Some, Ok, Err}
use Rattle.yaml_subset.specs.declared.fault.YamlForm.{YamlForm}
use Rattle.yaml_subset.specs.declared.fault.YamlForm.TheVariants.{Directive, Documents}
use Rattle.yaml_subset.specs.declared.fault.YamlCause.{YamlCause}
use Rattle.yaml_subset.specs.declared.fault.YamlCause.TheVariants.{TooDeep, Tab, LeftOut, Indent, Syntax}
use Rattle.yaml_subset.specs.declared.scalars.Scanned.{Scanned}
use Rattle.yaml_subset.specs.declared.stack.Open.{Open}
use Rattle.yaml_subset.specs.declared.stack.Open.TheVariants as open_
use Rattle.yaml_subset.specs.declared.stack.Frame.{Frame}
use Rattle.yaml_subset.specs.declared.blocks.Place.{Place}
use Rattle.yaml_subset.specs.declared.blocks.Place.TheVariants.{Document, Deeper, Item}
use Rattle.yaml_subset.specs.declared.blocks.State.{State}
use Rattle.yaml_subset.specs.declared.blocks.State.TheVariants.{Start, Headed, Alone, Blocks}
use Rattle.yaml_tree.specs.declared.tree.Tree.{Tree}
use Rattle.yaml_tree.specs.declared.tree.Key.{Key}
use Rattle.yaml_tree.specs.declared.tree.Pair.{Pair}
use Rattle.yaml_subset.specs.Characters.{is_empty, begins, marks, left_out}
use Rattle.yaml_subset.specs.Scalars.{scan, left_scalar, value_at, key_of}
use Rattle.yaml_subset.specs.Flow.{with_entry, opens, colon_and_tab}
use Rattle.yaml_subset.specs.Blocks.{top_is, ends_block, levels_in, begins_block, is_marker, is_start}
use Rattle.yaml_subset.specs.LineValue.{IsLineValue}
use Rattle.yaml_subset.specs.Grammar.{IsNoHead}
use Rattle.yaml_subset.specs.ScalarFaults.{NextFault, LineEndFault, ScanFault}
use Rattle.yaml_subset.specs.FlowFaults.{InPart, BehindValue, KeyFault, IsNewKey, LineValueFault}

-- ---- what begins at a column

-- a fault in what stands behind a colon or a dash, where something does
abbrev pub InSome : List ℕ → (List ℕ → ℕ → YamlCause → Type 0) → ℕ → YamlCause → Type 0
InSome rest In at cause = InPart false rest (λ part inside c. (is_empty part ≡ false) × In part inside c) at cause

-- what is wrong with a scalar before no colon, from which `rest` begins and behind which `after` follows: a
-- tab behind the colon of a quoted key, no value, or something behind it
pub data AloneFault (rest : List ℕ) (s : Scanned) (after : List ℕ) (at : ℕ) (cause : YamlCause) : Type 0 where
  alone_tab : colon_and_tab s after ≡ true → at ≡ (length rest - length after) + 1 → cause ≡ Tab → AloneFault rest s after at cause
  alone_value : colon_and_tab s after ≡ false → at ≡ 0 → value_at s after ≡ Err cause → AloneFault rest s after at cause
  alone_end : colon_and_tab s after ≡ false → (v : Tree) → value_at s after ≡ Ok v → (inside : ℕ) → at ≡ (length rest - length after) + inside → LineEndFault after inside cause
      → AloneFault rest s after at cause

-- What is wrong with a scalar before a colon, which is the first key of a map: the map is too deep, the
-- scalar is no key (`<<`, a number outside i128, or neither a whole number nor a text), or something is
-- wrong with its value.
pub data FirstKeyFault (levels : ℕ) (rest : List ℕ) (s : Scanned) (after : List ℕ) (at : ℕ) (cause : YamlCause) : Type 0 where
  map_too_deep : levels ≡ 0 → at ≡ 0 → cause ≡ TooDeep → FirstKeyFault levels rest s after at cause
  first_no_key : at ≡ 0 → key_of s ≡ Err cause → FirstKeyFault levels rest s after at cause
  behind_first_key : 0 < levels → (k : Key) → key_of s ≡ Ok k → (inside : ℕ) → at ≡ (length rest - length (drop 1 after)) + inside
      → InSome (drop 1 after) (LineValueFault (levels - 1)) inside cause → FirstKeyFault levels rest s after at cause

-- what is wrong with a value on one line or the first key of a map; a value may not stand on a line of its
-- own below an entry
pub data HeadFault (levels : ℕ) (place : Place) (rest : List ℕ) (at : ℕ) (cause : YamlCause) : Type 0 where
  head_flow : opens rest ≡ true → LineValueFault levels rest at cause → HeadFault levels place rest at cause
  head_scalar : opens rest ≡ false → ScanFault false rest at cause → HeadFault levels place rest at cause
  head_key : opens rest ≡ false → (s : Scanned) (after : List ℕ) → scan false rest ≡ Ok (s, after) → marks 58 after ≡ true → FirstKeyFault levels rest s after at cause
      → HeadFault levels place rest at cause
  head_alone : opens rest ≡ false → (s : Scanned) (after : List ℕ) → scan false rest ≡ Ok (s, after) → marks 58 after ≡ false → AloneFault rest s after at cause
      → HeadFault levels place rest at cause
  head_below : place ≡ Deeper → (v : Tree) → IsLineValue levels rest v → at ≡ length rest → cause ≡ Syntax → HeadFault levels place rest at cause

-- what is wrong behind the dash of an item
abbrev pub DashFault : (List ℕ → ℕ → YamlCause → Type 0) → List ℕ → ℕ → YamlCause → Type 0
DashFault Content rest at cause = (there : ℕ) × (at ≡ 1 + there) × InSome (drop 1 rest) Content there cause

-- what is wrong with what begins at a column, where so many lists and maps may be nested
abbrev pub ContentFault : ℕ → Place → List ℕ → ℕ → YamlCause → Type 0
ContentFault zero place rest at cause = ((marks 45 rest ≡ true) × (at ≡ 0) × (cause ≡ TooDeep)) ⊎ ((marks 45 rest ≡ false) × HeadFault zero place rest at cause)
ContentFault (suc levels) place rest at cause = ((marks 45 rest ≡ true) × DashFault (ContentFault levels Item) rest at cause)
    ⊎ ((marks 45 rest ≡ false) × HeadFault (suc levels) place rest at cause)

-- ---- lines of open blocks

-- what is wrong with a line's first character where nothing may begin: a tab, and what is left out where a
-- value or a key may begin, are wrong there too
pub data MisplacedFault (otherwise : YamlCause) (rest : List ℕ) (at : ℕ) (cause : YamlCause) : Type 0 where
  misplaced_tab : begins 9 rest ≡ true → at ≡ 0 → cause ≡ Tab → MisplacedFault otherwise rest at cause
  misplaced_form : (form : YamlForm) → left_out rest ≡ Some form → at ≡ 0 → cause ≡ LeftOut form → MisplacedFault otherwise rest at cause
  misplaced_scalar : (form : YamlForm) → left_scalar (scan false rest) ≡ Some form → at ≡ 0 → cause ≡ LeftOut form → MisplacedFault otherwise rest at cause
  misplaced_line : at ≡ 0 → cause ≡ otherwise → MisplacedFault otherwise rest at cause

-- what is wrong with a line of a list
pub data ItemLineFault (levels : ℕ) (rest : List ℕ) (at : ℕ) (cause : YamlCause) : Type 0 where
  no_dash : begins 45 rest ≡ false → MisplacedFault Syntax rest at cause → ItemLineFault levels rest at cause
  dash_scalar : begins 45 rest ≡ true → marks 45 rest ≡ false → (form : YamlForm) → left_scalar (scan false rest) ≡ Some form → at ≡ 0 → cause ≡ LeftOut form → ItemLineFault levels rest at cause
  dash_and_tab : begins 45 rest ≡ true → marks 45 rest ≡ false → begins 9 (drop 1 rest) ≡ true → at ≡ 1 → cause ≡ Tab → ItemLineFault levels rest at cause
  dash_alone : begins 45 rest ≡ true → marks 45 rest ≡ false → at ≡ 1 → cause ≡ Syntax → ItemLineFault levels rest at cause
  in_item : marks 45 rest ≡ true → DashFault (ContentFault levels Item) rest at cause → ItemLineFault levels rest at cause

-- what is wrong with a line of a map behind these entries
abbrev pub EntryLineFault : ℕ → List Pair → List ℕ → ℕ → YamlCause → Type 0
EntryLineFault levels before rest at cause = KeyFault false before rest at cause ⊎ BehindValue (IsNewKey false before) rest (λ k after. InSome after (LineValueFault levels)) at cause

-- what is wrong with a line of an open block; which value the last entry has is all one
abbrev pub OpenLineFault : Open → ℕ → List ℕ → ℕ → YamlCause → Type 0
OpenLineFault (open_.List items) levels rest at cause = ItemLineFault levels rest at cause
OpenLineFault (open_.Map pairs k) levels rest at cause = (v : Tree) × EntryLineFault levels (with_entry pairs k v) rest at cause

-- of the open blocks, innermost first, those that a line at this indent doesn't end
abbrev pub StayOpen : ℕ → Bool → List Frame → List Frame → Type 0
StayOpen indent item [] left = left ≡ []
StayOpen indent item (f ∷ fs) left = ((ends_block indent item f fs ≡ true) × StayOpen indent item fs left) ⊎ ((ends_block indent item f fs ≡ false) × (left ≡ f ∷ fs))

-- what is wrong with a line where blocks are open, at an indent: it begins a block below an entry, it is a
-- line of the innermost block that it doesn't end, or its indent is that of none
pub data BlocksFault (frames : List Frame) (slot : Option Tree) (indent : ℕ) (rest : List ℕ) (at : ℕ) (cause : YamlCause) : Type 0 where
  in_deeper : begins_block frames slot indent (marks 45 rest) ≡ true → ContentFault (levels_in frames) Deeper rest at cause → BlocksFault frames slot indent rest at cause
  in_open : begins_block frames slot indent (marks 45 rest) ≡ false → (f : Frame) (around : List Frame) → StayOpen indent (marks 45 rest) frames (f ∷ around) → f.indent == indent ≡ true
      → OpenLineFault f.open_block (levels_in (f ∷ around)) rest at cause → BlocksFault frames slot indent rest at cause
  in_none : begins_block frames slot indent (marks 45 rest) ≡ false → (left : List Frame) → StayOpen indent (marks 45 rest) frames left → top_is indent left ≡ false
      → MisplacedFault Indent rest at cause → BlocksFault frames slot indent rest at cause

-- ---- lines

-- what is wrong with the first line that counts, where `---` may stand alone
pub data FirstLineFault (line rest : List ℕ) (at : ℕ) (cause : YamlCause) : Type 0 where
  head_comment : is_marker 45 line ≡ true → (inside : ℕ) → at ≡ 3 + inside → NextFault false (drop 3 line) inside cause → FirstLineFault line rest at cause
  no_head : IsNoHead line → ContentFault 32 Document rest at cause → FirstLineFault line rest at cause

-- what is wrong with a line that counts, by the lines before it
abbrev pub StateFault : State → List ℕ → ℕ → List ℕ → ℕ → YamlCause → Type 0
StateFault Start line indent rest at cause = FirstLineFault line rest at cause
StateFault Headed line indent rest at cause = ContentFault 32 Document rest at cause
StateFault (Alone column v) line indent rest at cause = MisplacedFault (if column == indent then Syntax else Indent) rest at cause
StateFault (Blocks frames slot) line indent rest at cause = BlocksFault frames slot indent rest at cause

-- the line is the end of a document, or the head of another one
abbrev pub ends_document : State → List ℕ → Bool
ends_document state line = is_marker 46 line || is_marker 45 line && not (is_start state)

-- what is wrong with a line that counts; with a directive and the end of a document that is all
pub data CountedFault (state : State) (line : List ℕ) (indent : ℕ) (rest : List ℕ) (at : ℕ) (cause : YamlCause) : Type 0 where
  directive : begins 37 line ≡ true → at ≡ 0 → cause ≡ LeftOut Directive → CountedFault state line indent rest at cause
  documents : begins 37 line ≡ false → ends_document state line ≡ true → at ≡ 0 → cause ≡ LeftOut Documents → CountedFault state line indent rest at cause
  in_line : begins 37 line ≡ false → ends_document state line ≡ false → StateFault state line indent rest at cause → CountedFault state line indent rest at cause

-- what is wrong with a line, behind the lines of an accepted text that leave open what `state` says
abbrev pub LineFault : State → List ℕ → ℕ → YamlCause → Type 0
LineFault state line at cause = InPart true line (λ rest inside c. (is_empty rest ≡ false) × CountedFault state line (length line - length rest) rest inside c) at cause
