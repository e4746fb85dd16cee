-- Options whose names differ: what the tests of the reader say of them.
use Rattle.std.proofs.Common.{◌≡◌, ◌≢◌, inl, inr, ◌<◌, not, ℕ, zero, suc, true, false, List, [], ◌∷◌, length, Some, None, refl, sym, ap, ◌∙◌, arith, All, bytes_eq}
use Rattle.std.specs.Prelude.{IsTrue}
use Rattle.std.proofs.lemmas.Bool.{and_parts, and_from, false_from_ne_true, not-true, cases_Bool}
use Rattle.std.proofs.lemmas.Bool.Decides.{Decides-by_or, not_from_Decides}
use Rattle.std.proofs.lemmas.List.{get_or_default}
use Rattle.std.proofs.lemmas.List.Folds.{list_any_none}
use Rattle.std.proofs.lemmas.List.Kept.{AllPairs-cons}
use Rattle.std.proofs.lemmas.Option.{none-some, same_Some}
use Rattle.std.proofs.lemmas.Slice.Eq.{bytes_eq-Decides}
use Rattle.command_line.specs.Asked.{StandOnce, StandsBehind}
use Rattle.command_line.specs.declared.parts.CommandOption.{CommandOption}
use Rattle.command_line.specs.Parts.{is_named, have_distinct_names}
use Rattle.command_line.specs.Values.{value_of}

-- ---- two names

pub same_text : (a b : List ℕ) → bytes_eq a b ≡ true → a ≡ b
same_text a b e = (bytes_eq-Decides a b).0 e

pub is_same_text : (a b : List ℕ) → a ≡ b → bytes_eq a b ≡ true
is_same_text a b e = (bytes_eq-Decides a b).1 e

pub differ : (a b : List ℕ) → (a ≡ b → ⊥) → bytes_eq a b ≡ false
differ a b h = false_from_ne_true (bytes_eq a b) (λ e. h (same_text a b e))

-- ---- each once

others_differ : (o : CommandOption) (others : List CommandOption) → is_named o.name others ≡ false → All (λ p. o.name ≢ p.name) others
others_differ o others none = λ k d below same.
    not_from_Decides (is_named o.name others)
    (Decides-by_or (λ p. bytes_eq p.name o.name) (λ p. p.name ≡ o.name) (is_named o.name) (λ p. bytes_eq-Decides p.name o.name) refl (λ _ _. refl) others)
    none (k, below, λ e. ap (λ (p : CommandOption). p.name) (get_or_default others k e d below) ∙ sym same)

pub once : (options : List CommandOption) → IsTrue (have_distinct_names options) → StandOnce options
once [] h = λ i j d less below. absurd (omega (arith, below))
once (o ∷ others) h =
    let parts = and_parts (not (is_named o.name others)) (have_distinct_names others) h in
    AllPairs-cons (λ p q. p.name ≢ q.name) o others (others_differ o others (not-true _ parts.0)) (once others parts.1)

rest_once : (o : CommandOption) (others : List CommandOption) → StandOnce (o ∷ others) → StandOnce others
rest_once o others all = λ i j d less below. all (suc i) (suc j) d (omega (arith, less)) (omega (arith, below))

first_once : (o : CommandOption) (others : List CommandOption) → StandOnce (o ∷ others) → All (λ p. o.name ≢ p.name) others
first_once o others all = λ k d below. all 0 (suc k) d (omega arith) (omega (arith, below))

pub distinct : (options : List CommandOption) → StandOnce options → IsTrue (have_distinct_names options)
distinct [] all = refl
distinct (o ∷ others) all =
    let none : is_named o.name others ≡ false = list_any_none (λ (p : CommandOption). bytes_eq p.name o.name) others (λ k d below. differ _ _ (λ same. first_once o others all k d below (sym same))) in
    and_from (not (is_named o.name others)) (have_distinct_names others) (ap not none) (distinct others (rest_once o others all))

-- ---- what stands behind a name

value_here : (name : List ℕ) (o : CommandOption) (others : List CommandOption) → bytes_eq o.name name ≡ true → value_of name (o ∷ others) ≡ Some o.value
value_here name o others is = rw is refl

value_later : (name : List ℕ) (o : CommandOption) (others : List CommandOption) → bytes_eq o.name name ≡ false → value_of name (o ∷ others) ≡ value_of name others
value_later name o others is = rw is refl

stands_first : (name value : List ℕ) (o : CommandOption) (others : List CommandOption) → o.name ≡ name → o.value ≡ value → StandsBehind (o ∷ others) name value
stands_first name value o others named is =
    (0, omega arith, ap (λ (n : List ℕ). record { name = n; value = o.value }) named ∙ ap (λ (v : List ℕ). record { name = name; value = v }) is)

stands_later : (name value : List ℕ) (o : CommandOption) (others : List CommandOption) → StandsBehind others name value → StandsBehind (o ∷ others) name value
stands_later name value o others at = (suc at.0, omega (arith, at.1), at.2)

pub stands : (name value : List ℕ) (options : List CommandOption) → value_of name options ≡ Some value → StandsBehind options name value
stands name value [] e = absurd (none-some value e)
stands name value (o ∷ others) e = elim (cases_Bool (bytes_eq o.name name)) [
  | inl is ↦ stands_first name value o others (same_text _ _ is) (same_Some _ _ (sym (value_here name o others is) ∙ e))
  | inr not ↦ stands_later name value o others (stands name value others (sym (value_later name o others not) ∙ e))
]

-- the name of an option that stands at a place is there
pub none_stands : (name value : List ℕ) (options : List CommandOption) → value_of name options ≡ None → StandsBehind options name value → ⊥
none_stands name value [] e at = omega (arith, at.1)
none_stands name value (o ∷ others) e (zero, below, is) =
    none-some o.value (sym e ∙ value_here name o others (is_same_text _ _ (ap (λ (p : CommandOption). p.name) is)))
none_stands name value (o ∷ others) e (suc k, below, is) = elim (cases_Bool (bytes_eq o.name name)) [
  | inl here ↦ none-some o.value (sym e ∙ value_here name o others here)
  | inr not ↦ none_stands name value others (sym (value_later name o others not) ∙ e) (k, omega (arith, below), is)
]

-- where no name stands twice, what stands behind one is its value
pub found : (name value : List ℕ) (options : List CommandOption) → StandOnce options → StandsBehind options name value → value_of name options ≡ Some value
found name value [] all at = absurd (omega (arith, at.1))
found name value (o ∷ others) all (zero, below, is) =
    value_here name o others (is_same_text _ _ (ap (λ (p : CommandOption). p.name) is)) ∙ ap (λ (p : CommandOption). Some p.value) is
found name value (o ∷ others) all (suc k, below, is) =
    let later : k < length others = omega (arith, below) in
    let apart : bytes_eq o.name name ≡ false = differ _ _ (λ same. first_once o others all k (record { name = name; value = value }) later (same ∙ sym (ap (λ (p : CommandOption). p.name) is))) in
    value_later name o others apart ∙ found name value others (rest_once o others all) (k, later, is)
