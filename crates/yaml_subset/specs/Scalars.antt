-- Scalars, and what they stand for as values and as keys.
use Rattle.std.specs.Prelude.{ℕ, Bool, true, false, ◌||◌, ◌&&◌, ◌-◌, if◌then◌else◌, List, [], length, take, drop, codes, Option, Some, None, Result, Ok, Err}
use Rattle.std.specs.Str.{bytes_eq, is_utf8}
use Rattle.yaml_subset.specs.declared.fault.YamlForm.{YamlForm}
use Rattle.yaml_subset.specs.declared.fault.YamlForm.TheVariants.{MergeKey}
use Rattle.yaml_subset.specs.declared.fault.YamlForm.TheVariants as form
use Rattle.yaml_subset.specs.declared.fault.YamlCause.{YamlCause}
use Rattle.yaml_subset.specs.declared.fault.YamlCause.TheVariants.{LeftOut, Syntax}
use Rattle.yaml_subset.specs.declared.numbers.Number.{Number}
use Rattle.yaml_subset.specs.declared.numbers.Number.TheVariants.{Not, Whole, Wide}
use Rattle.yaml_subset.specs.declared.quoted.Escape.TheVariants.{Outside}
use Rattle.yaml_subset.specs.declared.scalars.Scanned.{Scanned}
use Rattle.yaml_tree.specs.declared.tree.Tree.{Tree}
use Rattle.yaml_tree.specs.declared.tree.Tree.TheVariants as tree
use Rattle.yaml_tree.specs.declared.tree.Key.{Key}
use Rattle.yaml_tree.specs.declared.tree.Key.TheVariants as key
use Rattle.yaml_subset.specs.Characters.{begins, marks}
use Rattle.yaml_subset.specs.Quoted.{single_from, double_from}
use Rattle.yaml_subset.specs.Plain.{plain_fault, plain_from}
use Rattle.yaml_subset.specs.Numbers.{number_of}
use Rattle.yaml_subset.specs.Gives.{◌>>=◌}

-- the bytes as a text
unfoldable pub text_of : List ℕ → Result (List ℕ) YamlCause
text_of bytes = if is_utf8 bytes then Ok bytes else Err Syntax

-- a plain scalar, and what follows it
unfoldable pub plain_scalar : Bool → List ℕ → Result (Scanned × List ℕ) YamlCause
plain_scalar flow rest = do
  span ← plain_from flow rest rest
  Ok (record { plain = true; text = take (length rest - length span.0) rest }, span.1)

abbrev pub unless_fault : {X : Type 0} → Option YamlCause → Result X YamlCause → Result X YamlCause
unless_fault None read = read
unless_fault (Some cause) read = Err cause

abbrev pub as_quoted : List ℕ × List ℕ → Scanned × List ℕ
as_quoted quote = (record { plain = false; text = quote.0 }, quote.1)

-- a scalar as it is written, within or outside of flow brackets, and what follows it
unfoldable pub scan : Bool → List ℕ → Result (Scanned × List ℕ) YamlCause
scan flow rest = if begins 34 rest then (double_from Outside [] (drop 1 rest) >>= λ quote. Ok (as_quoted quote))
    else if begins 39 rest then (single_from false [] (drop 1 rest) >>= λ quote. Ok (as_quoted quote))
    else unless_fault (plain_fault flow rest) (plain_scalar flow rest)

abbrev pub is_null : List ℕ → Bool
is_null text = bytes_eq text (codes "~") || bytes_eq text (codes "null")

abbrev pub is_true_word : List ℕ → Bool
is_true_word text = bytes_eq text (codes "true") || bytes_eq text (codes "True") || bytes_eq text (codes "TRUE")

abbrev pub is_false_word : List ℕ → Bool
is_false_word text = bytes_eq text (codes "false") || bytes_eq text (codes "False") || bytes_eq text (codes "FALSE")

abbrev pub text_tree : List ℕ → Result Tree YamlCause
text_tree bytes = text_of bytes >>= λ text. Ok (tree.Text text)

abbrev pub number_or_text : Number → List ℕ → Result Tree YamlCause
number_or_text Not text = text_tree text
number_or_text (Whole n) text = Ok (tree.Int n)
number_or_text Wide text = Err (LeftOut form.Wide)

-- a plain scalar is Null, a Bool, an Int or a text
unfoldable pub plain_value : List ℕ → Result Tree YamlCause
plain_value text = if is_null text then Ok tree.Null
    else if is_true_word text then Ok (tree.Bool true)
    else if is_false_word text then Ok (tree.Bool false)
    else number_or_text (number_of text) text

-- a quoted scalar is a text
unfoldable pub scalar_value : Scanned → Result Tree YamlCause
scalar_value s = if s.plain then plain_value s.text else text_tree s.text

abbrev pub as_key : Tree → Result Key YamlCause
as_key (tree.Int n) = Ok (key.Int n)
as_key (tree.Text text) = Ok (key.Text text)
as_key _ = Err Syntax

-- the plain `<<`
abbrev pub is_merge : Scanned → Bool
is_merge s = s.plain && bytes_eq s.text (codes "<<")

abbrev pub are_wide : Number → Bool
are_wide Wide = true
are_wide _ = false

-- a whole number outside i128
abbrev pub is_wide : Scanned → Bool
is_wide s = s.plain && are_wide (number_of s.text)

-- a key is an Int or a text; the plain `<<` is left out
unfoldable pub key_of : Scanned → Result Key YamlCause
key_of s = if is_merge s then Err (LeftOut MergeKey)
    else scalar_value s >>= as_key

-- what a scalar stands for as a value, where this follows; `<<` with its colon is left out
unfoldable pub value_at : Scanned → List ℕ → Result Tree YamlCause
value_at s after = if marks 58 after && is_merge s then Err (LeftOut MergeKey) else scalar_value s

-- a scalar with its value, within or outside of flow brackets, and what follows it
unfoldable pub scalar_from : Bool → List ℕ → Result (Tree × List ℕ) YamlCause
scalar_from flow rest = do
  s ← scan flow rest
  v ← value_at s.0 s.1
  Ok (v, s.1)

-- the scalar from which a line begins is left out wherever a scalar stands: a whole number outside i128, or
-- the plain `<<` with its colon
abbrev pub left_scalar : Result (Scanned × List ℕ) YamlCause → Option YamlForm
left_scalar (Ok s) = if is_wide s.0 then Some form.Wide else if is_merge s.0 && marks 58 s.1 then Some MergeKey else None
left_scalar (Err c) = None
