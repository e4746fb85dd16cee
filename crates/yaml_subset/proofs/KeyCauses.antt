-- What keeps a scalar before a colon from being a key is no lesser cause than too deep a map.
use Rattle.std.proofs.Common.{◌≡◌, ◌≤◌, Bool, true, false, cond, List, ℕ, Result, Ok, Err, subst, arith}
use Rattle.std.specs.Str.{is_utf8}
use Rattle.yaml_subset.specs.declared.fault.YamlForm.TheVariants as form
use Rattle.yaml_subset.specs.declared.fault.YamlCause.{YamlCause}
use Rattle.yaml_subset.specs.declared.fault.YamlCause.TheVariants.{LeftOut, Syntax}
use Rattle.yaml_subset.specs.declared.numbers.Number.{Number}
use Rattle.yaml_subset.specs.declared.numbers.Number.TheVariants.{Not, Whole, Wide}
use Rattle.yaml_subset.specs.declared.scalars.Scanned.{Scanned}
use Rattle.yaml_tree.specs.declared.tree.Tree.{Tree}
use Rattle.yaml_tree.specs.declared.tree.Tree.TheVariants as tree
use Rattle.yaml_subset.specs.FirstFault.{cause_number}
use Rattle.yaml_subset.specs.Numbers.{number_of}
use Rattle.yaml_subset.specs.Scalars.{text_of, is_null, is_true_word, is_false_word, text_tree, number_or_text, plain_value, scalar_value, as_key, key_of}
use Rattle.yaml_subset.specs.Gives.{◌>>=◌}

abbrev Late : {A : Type 0} → Result A YamlCause → Type 0
Late (Ok x) = Unit {0}
Late (Err c) = 3 ≤ cause_number c

late_if : {A : Type 0} (b : Bool) (x y : Result A YamlCause) → Late x → Late y → Late (cond b x y)
late_if true x y p q = p
late_if false x y p q = q

late_bind : {A B : Type 0} (r : Result A YamlCause) (f : A → Result B YamlCause) → Late r → ((x : A) → Late (f x)) → Late (r >>= f)
late_bind (Ok x) f p q = q x
late_bind (Err c) f p q = p

text_late : (text : List ℕ) → Late (text_tree text)
unfolding text_of
text_late text = late_bind (cond (is_utf8 text) (Ok text) (Err Syntax)) (λ t. Ok (tree.Text t)) (late_if (is_utf8 text) (Ok text) (Err Syntax) tt (omega arith)) (λ t. tt)

number_late : (n : Number) (text : List ℕ) → Late (number_or_text n text)
number_late Not text = text_late text
number_late (Whole n) text = tt
number_late Wide text = omega arith

plain_late : (text : List ℕ) → Late (plain_value text)
unfolding plain_value
plain_late text =
    late_if (is_null text) (Ok tree.Null) _ tt (late_if (is_true_word text) (Ok (tree.Bool true)) _ tt (late_if (is_false_word text) (Ok (tree.Bool false)) _ tt (number_late (number_of text) text)))

value_late : (s : Scanned) → Late (scalar_value s)
unfolding scalar_value
value_late s = late_if s.plain (plain_value s.text) (text_tree s.text) (plain_late s.text) (text_late s.text)

as_late : (v : Tree) → Late (as_key v)
as_late (tree.Int n) = tt
as_late (tree.Text text) = tt
as_late _ = omega arith

key_late : (s : Scanned) → Late (key_of s)
unfolding key_of
key_late s = late_if _ (Err (LeftOut form.MergeKey)) (scalar_value s >>= as_key) (omega arith) (late_bind (scalar_value s) as_key (value_late s) as_late)

pub late_key : (s : Scanned) (c : YamlCause) → key_of s ≡ Err c → 3 ≤ cause_number c
late_key s c e = subst (λ r. Late r) e (key_late s)
