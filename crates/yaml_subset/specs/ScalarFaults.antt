-- Which faults stand in a scalar as it is written, and between the parts of a line. Several may stand in
-- the same bytes. Columns count from the first byte of the part.
use Rattle.std.specs.Prelude.{◌≡◌, ℕ, suc, ◌+◌, ◌-◌, Bool, true, false, ◌||◌, ◌&&◌, not, ◌==◌, List, [], ◌∷◌, ◌++◌, length, Some, Ok, Err}
use Rattle.yaml_subset.specs.declared.fault.YamlForm.{YamlForm}
use Rattle.yaml_subset.specs.declared.fault.YamlForm.TheVariants.{LongFlow, LongQuote}
use Rattle.yaml_subset.specs.declared.fault.YamlCause.{YamlCause}
use Rattle.yaml_subset.specs.declared.fault.YamlCause.TheVariants.{Tab, LeftOut, Syntax}
use Rattle.yaml_subset.specs.declared.scalars.Scanned.{Scanned}
use Rattle.yaml_subset.specs.Characters.{is_empty, begins, skip, is_control, is_kept, at_gap, left_out}
use Rattle.yaml_subset.specs.Plain.{is_flow, is_reserved, plain_ends}
use Rattle.yaml_subset.specs.SingleQuoted.{doubled}
use Rattle.yaml_subset.specs.DoubleQuoted.{IsSpelled, BeginsEscape, IsUnfinished}
use Rattle.yaml_subset.specs.Scalars.{scan, value_at}

-- a control character stands there that may stand neither in quotes nor in comments
pub record ControlAt (bytes : List ℕ) (at : ℕ) : Type 0 where
  pub front : List ℕ
  pub control : ℕ
  pub behind : List ℕ
  pub whole : bytes ≡ front ++ control ∷ behind
  pub place : at ≡ length front
  pub unkept : is_kept control ≡ false

-- ---- between the parts of a line

-- a comment begins behind the spaces: at the start of a line (fresh), or after a space
abbrev pub HasComment : Bool → List ℕ → Type 0
HasComment fresh rest = (begins 35 (skip rest) ≡ true) × (fresh || begins 32 rest ≡ true)

-- in a comment: a control character that may not stand there
pub data NextFault (fresh : Bool) (rest : List ℕ) : ℕ → YamlCause → Type 0 where
  in_comment : HasComment fresh rest → (at : ℕ) → ControlAt rest at → NextFault fresh rest at Syntax

-- the column of the first character that is no space
abbrev pub behind_spaces : List ℕ → ℕ
behind_spaces rest = length rest - length (skip rest)

-- behind a whole value: a control character in a comment, or a character where none may stand
pub data LineEndFault (rest : List ℕ) : ℕ → YamlCause → Type 0 where
  end_comment : (at : ℕ) (cause : YamlCause) → NextFault false rest at cause → LineEndFault rest at cause
  end_tab : begins 9 (skip rest) ≡ true → LineEndFault rest (behind_spaces rest) Tab
  end_stray : is_empty (skip rest) ≡ false → (HasComment false rest → ⊥) → LineEndFault rest (behind_spaces rest) Syntax

-- ---- plain scalars

-- one of `& * ! | >`
abbrev pub is_indicator : ℕ → Bool
is_indicator c = c == 38 || c == 42 || c == 33 || c == 124 || c == 62

-- `-`, `?` or `:` with a space or the line's end behind it
abbrev pub is_lone_mark : ℕ → List ℕ → Bool
is_lone_mark c cs = (c == 45 || c == 63 || c == 58) && at_gap cs

-- in flow, `-` or `:` at the line's end: the brackets are open there
abbrev pub IsCutMark : Bool → ℕ → List ℕ → Type 0
IsCutMark flow c cs = (flow ≡ true) × (c == 45 || c == 58 ≡ true) × (is_empty cs ≡ true)

-- no scalar ends before any of these characters, behind which `after` stands
abbrev pub is_unended : Bool → List ℕ → List ℕ → Bool
is_unended flow [] after = true
is_unended flow (c ∷ cs) after = not (plain_ends flow c (cs ++ after)) && is_unended flow cs after

-- a plain scalar that may not begin so, or with a control character before it ends
pub data PlainFault (flow : Bool) (rest : List ℕ) : ℕ → YamlCause → Type 0 where
  no_scalar : is_empty rest ≡ true → PlainFault flow rest 0 Syntax
  left_out_form : (form : YamlForm) → left_out rest ≡ Some form → PlainFault flow rest 0 (LeftOut form)
  no_start : (c : ℕ) (cs : List ℕ) → rest ≡ c ∷ cs → is_flow c || is_reserved c || is_indicator c ≡ true → PlainFault flow rest 0 Syntax
  lone_mark : (c : ℕ) (cs : List ℕ) → rest ≡ c ∷ cs → is_lone_mark c cs ≡ true → (IsCutMark flow c cs → ⊥) → PlainFault flow rest 0 Syntax
  cut_mark : (c : ℕ) (cs : List ℕ) → rest ≡ c ∷ cs → IsCutMark flow c cs → PlainFault flow rest (length rest) (LeftOut LongFlow)
  plain_tab : (front behind : List ℕ) → rest ≡ front ++ 9 ∷ behind → is_unended flow front (9 ∷ behind) ≡ true → PlainFault flow rest (length front) Tab
  plain_control : (front : List ℕ) (c : ℕ) (behind : List ℕ) → rest ≡ front ++ c ∷ behind → is_control c ≡ true → is_unended flow front (c ∷ behind) ≡ true
      → PlainFault flow rest (length front) Syntax

-- ---- quoted scalars

-- behind an opening single quote: a control character, or the line's end in the quote
pub data SingleFault (inside : List ℕ) : ℕ → YamlCause → Type 0 where
  single_control : (text : List ℕ) (c : ℕ) (behind : List ℕ) → inside ≡ doubled text ++ c ∷ behind → is_kept c ≡ false → SingleFault inside (length (doubled text)) Syntax
  single_open : (text : List ℕ) → inside ≡ doubled text → SingleFault inside (length inside) (LeftOut LongQuote)

-- behind whole characters and escapes in double quotes: a control character, a byte with which the escape
-- that has begun doesn't go on, or the line's end in the quote or in an escape
pub data PieceFault (rest : List ℕ) : ℕ → YamlCause → Type 0 where
  double_control : (c : ℕ) (behind : List ℕ) → rest ≡ c ∷ behind → is_kept c ≡ false → PieceFault rest 0 Syntax
  no_escape : (front : List ℕ) (c : ℕ) (behind : List ℕ) → rest ≡ 92 ∷ front ++ c ∷ behind → IsUnfinished (92 ∷ front) → (BeginsEscape (92 ∷ front ++ c ∷ []) → ⊥)
      → PieceFault rest (suc (length front)) Syntax
  double_open : is_empty rest ≡ true → PieceFault rest 0 (LeftOut LongQuote)
  cut_escape : (front : List ℕ) → rest ≡ 92 ∷ front → IsUnfinished (92 ∷ front) → PieceFault rest (length rest) (LeftOut LongQuote)

-- behind an opening double quote
pub data DoubleFault (inside : List ℕ) : ℕ → YamlCause → Type 0 where
  double_fault : (spelling text rest : List ℕ) → IsSpelled spelling text → inside ≡ spelling ++ rest → (at : ℕ) (cause : YamlCause) → PieceFault rest at cause
      → DoubleFault inside (length spelling + at) cause

-- ---- scalars

-- a scalar that can't be read as it is written
pub data ScanFault (flow : Bool) (rest : List ℕ) : ℕ → YamlCause → Type 0 where
  in_plain : begins 34 rest || begins 39 rest ≡ false → (at : ℕ) (cause : YamlCause) → PlainFault flow rest at cause → ScanFault flow rest at cause
  in_single : (inside : List ℕ) → rest ≡ 39 ∷ inside → (at : ℕ) (cause : YamlCause) → SingleFault inside at cause → ScanFault flow rest (suc at) cause
  in_double : (inside : List ℕ) → rest ≡ 34 ∷ inside → (at : ℕ) (cause : YamlCause) → DoubleFault inside at cause → ScanFault flow rest (suc at) cause

-- a scalar that can't be read, or that has no value: a number outside i128, or `<<` with its colon
pub data ScalarFault (flow : Bool) (rest : List ℕ) (at : ℕ) (cause : YamlCause) : Type 0 where
  unread : ScanFault flow rest at cause → ScalarFault flow rest at cause
  no_value : (s : Scanned) (after : List ℕ) → scan flow rest ≡ Ok (s, after) → at ≡ 0 → value_at s after ≡ Err cause → ScalarFault flow rest at cause
