-- What was seen so far.
use Rattle.std.proofs.Common.{◌≡◌, ℕ, Bool, true, false, cond, ◌||◌, List, refl, sym, ◌∙◌, ap}
use Rattle.std.specs.Ordering.{nat_cmp}
use Rattle.std.specs.Cmp.Lexicographic.{slice_cmp}
use Rattle.std.specs.Str.{bytes_eq}
use Rattle.std.specs.String.{string_bytes, string_cmp}
use Rattle.std.specs.BTreeSet.{BTreeSet, UpdatesBy, contains_text}
use Rattle.std.specs.declared.string.String.{String}
use Rattle.std.specs.declared.alloc.Global.{Global}
use Rattle.std.proofs.lemmas.Map.Text.{btree_set_updates_text, is_eq-slice_cmp}
use Rattle.conf_types.specs.Lists.{is_same}

pub cond_or : (b a : Bool) → cond b true a ≡ (a || b)
cond_or true true = refl
cond_or true false = refl
cond_or false true = refl
cond_or false false = refl

-- a text more
pub text_more : (bs name : List ℕ) (s n : BTreeSet (String Global)) → bs ≡ name → UpdatesBy string_cmp (λ k. slice_cmp nat_cmp bs (string_bytes k)) s n true
    → (t : List ℕ) → contains_text n t ≡ (contains_text s t || is_same name t)
text_more bs name s n e u t =
    btree_set_updates_text bs s n true u t
    ∙ cond_or (bytes_eq bs t) (contains_text s t)
    ∙ ap (λ b. contains_text s t || b) (sym (is_eq-slice_cmp bs t) ∙ ap (λ k. is_same k t) e)
