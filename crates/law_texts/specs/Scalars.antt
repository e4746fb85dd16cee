-- Scalars and what they stand for, apart from how they are read.
use Rattle.std.specs.Prelude.{◌≡◌, ◌⊎◌, ℕ, Bool, true, false, not, ◌||◌, List, [], ◌∷◌, codes, ℤ}
use Rattle.std.specs.Str.{is_utf8}
use Rattle.yaml_subset.specs.declared.fault.YamlForm.TheVariants.{MergeKey, Wide}
use Rattle.yaml_subset.specs.declared.fault.YamlCause.{YamlCause}
use Rattle.yaml_subset.specs.declared.fault.YamlCause.TheVariants.{LeftOut, Syntax}
use Rattle.yaml_subset.specs.declared.scalars.Scanned.{Scanned}
use Rattle.yaml_tree.specs.declared.tree.Tree.{Tree}
use Rattle.yaml_tree.specs.declared.tree.Tree.TheVariants as tree
use Rattle.yaml_tree.specs.declared.tree.Key.{Key}
use Rattle.yaml_tree.specs.declared.tree.Key.TheVariants as key
use Rattle.yaml_subset.specs.Characters.{is_control, marks}
use Rattle.yaml_subset.specs.Plain.{is_flow, is_reserved}
use Rattle.yaml_subset.specs.PlainText.{IsPlain}
use Rattle.yaml_subset.specs.ScalarFaults.{is_indicator, is_lone_mark}
use Rattle.yaml_subset.specs.SingleQuoted.{IsSingleQuoted}
use Rattle.yaml_subset.specs.DoubleQuoted.{IsDoubleQuoted}
use Rattle.law_texts.specs.Numbers.{IsWhole, IsNumber}

-- ---- as they are written

-- a plain scalar begins with this character, behind which cs stand
abbrev pub may_begin : ℕ → List ℕ → Bool
may_begin c cs = not (is_control c || is_flow c || is_reserved c || is_indicator c || is_lone_mark c cs)

abbrev pub begins_plain : List ℕ → Bool
begins_plain [] = false
begins_plain (c ∷ cs) = may_begin c cs

-- a scalar in quotes or a plain one, within or outside of flow brackets, and what follows it
pub data IsScanned (flow : Bool) (rest : List ℕ) (s : Scanned) (after : List ℕ) : Type 0 where
  double_quoted : (inside : List ℕ) → rest ≡ 34 ∷ inside → s.plain ≡ false → IsDoubleQuoted inside s.text after → IsScanned flow rest s after
  single_quoted : (inside : List ℕ) → rest ≡ 39 ∷ inside → s.plain ≡ false → IsSingleQuoted inside s.text after → IsScanned flow rest s after
  plain : begins_plain rest ≡ true → s.plain ≡ true → IsPlain flow rest s.text after → IsScanned flow rest s after

-- ---- what they stand for

abbrev pub IsNullWord : List ℕ → Type 0
IsNullWord text = (text ≡ codes "~") ⊎ (text ≡ codes "null")

abbrev pub IsTrueWord : List ℕ → Type 0
IsTrueWord text = ((text ≡ codes "true") ⊎ (text ≡ codes "True")) ⊎ (text ≡ codes "TRUE")

abbrev pub IsFalseWord : List ℕ → Type 0
IsFalseWord text = ((text ≡ codes "false") ⊎ (text ≡ codes "False")) ⊎ (text ≡ codes "FALSE")

-- a text in quotes is a text; a plain one may be a word for Null or a Bool, or a whole number, and is a text else
pub data StandsFor (s : Scanned) (v : Tree) : Type 0 where
  quoted : s.plain ≡ false → is_utf8 s.text ≡ true → v ≡ tree.Text s.text → StandsFor s v
  null_word : s.plain ≡ true → IsNullWord s.text → v ≡ tree.Null → StandsFor s v
  true_word : s.plain ≡ true → IsTrueWord s.text → v ≡ tree.Bool true → StandsFor s v
  false_word : s.plain ≡ true → IsFalseWord s.text → v ≡ tree.Bool false → StandsFor s v
  whole : s.plain ≡ true → (n : ℤ) → IsWhole s.text n → v ≡ tree.Int n → StandsFor s v
  plain_text : s.plain ≡ true → (IsNullWord s.text → ⊥) → (IsTrueWord s.text → ⊥) → (IsFalseWord s.text → ⊥) → (IsNumber s.text → ⊥)
      → is_utf8 s.text ≡ true → v ≡ tree.Text s.text → StandsFor s v

-- the plain `<<`
abbrev pub IsMerge : Scanned → Type 0
IsMerge s = (s.plain ≡ true) × (s.text ≡ codes "<<")

-- a scalar as a value, behind which `after` stands; `<<` with its colon is none
pub record IsValueOf (s : Scanned) (after : List ℕ) (v : Tree) : Type 0 where
  pub stands : StandsFor s v
  pub no_merge : IsMerge s → marks 58 after ≡ true → ⊥

abbrev pub as_tree : Key → Tree
as_tree (key.Int n) = tree.Int n
as_tree (key.Text text) = tree.Text text

-- a key is a whole number or a text; `<<` is none
pub record IsKeyOf (s : Scanned) (k : Key) : Type 0 where
  pub stands : StandsFor s (as_tree k)
  pub no_merge : IsMerge s → ⊥

-- ---- and for what they stand for nothing

-- a whole number that is no i128
abbrev pub IsWide : List ℕ → Type 0
IsWide text = IsNumber text × ((n : ℤ) → IsWhole text n → ⊥)

-- a whole number that is no i128 is left out, and bytes that are no text are an error
pub data StandsForNone (s : Scanned) (cause : YamlCause) : Type 0 where
  wide_number : s.plain ≡ true → IsWide s.text → cause ≡ LeftOut Wide → StandsForNone s cause
  no_text : s.plain ≡ false → is_utf8 s.text ≡ false → cause ≡ Syntax → StandsForNone s cause
  no_plain_text : s.plain ≡ true → (IsNullWord s.text → ⊥) → (IsTrueWord s.text → ⊥) → (IsFalseWord s.text → ⊥) → (IsNumber s.text → ⊥)
      → is_utf8 s.text ≡ false → cause ≡ Syntax → StandsForNone s cause

-- a scalar is no value, where `after` stands behind it: `<<` with its colon is left out
pub data IsNoValueOf (s : Scanned) (after : List ℕ) (cause : YamlCause) : Type 0 where
  merge_value : IsMerge s → marks 58 after ≡ true → cause ≡ LeftOut MergeKey → IsNoValueOf s after cause
  stands_for_none : (IsMerge s → marks 58 after ≡ true → ⊥) → StandsForNone s cause → IsNoValueOf s after cause

-- a scalar is no key: `<<` is left out, and what stands for Null or a Bool is an error
pub data IsNoKeyOf (s : Scanned) (cause : YamlCause) : Type 0 where
  merge_key : IsMerge s → cause ≡ LeftOut MergeKey → IsNoKeyOf s cause
  no_value : (IsMerge s → ⊥) → StandsForNone s cause → IsNoKeyOf s cause
  null_key : (IsMerge s → ⊥) → StandsFor s tree.Null → cause ≡ Syntax → IsNoKeyOf s cause
  bool_key : (IsMerge s → ⊥) → (b : Bool) → StandsFor s (tree.Bool b) → cause ≡ Syntax → IsNoKeyOf s cause
