-- Fields in ascending order stay as they are, and what a field asks for stands before it.
use Rattle.std.proofs.Common.{◌≡◌, ℕ, suc, ◌≤◌, ◌<◌, Bool, true, false, ◌&&◌, ◌||◌, eqb, ltb, List, [], ◌∷◌, ◌++◌, length, Some, None, refl, sym, ap, ◌∙◌, arith}
use Rattle.std.specs.List.{AllByRecursion, list_any, list_all, position_or_len}
use Rattle.std.proofs.lemmas.Bool.{le-ltb, ltb-true, ne_eqb, and_parts, and_left, or_from, cond-false}
use Rattle.std.proofs.lemmas.List.Folds.{list_any-append}
use Rattle.net_base.specs.declared.field.Field.{Field}
use Rattle.net_base.specs.declared.field.FieldId.{FieldId}
use Rattle.net_base.specs.declared.field.FieldId.TheVariants.{VlanVid}
use Rattle.net_base.specs.FieldId.{number_of, prerequisites_of}
use Rattle.net_base.specs.declared.field.Prerequisite.{Prerequisite}
use Rattle.net_base.specs.declared.field.Prerequisite.TheVariants.{Tagged, Exactly, Either}
use Rattle.net_base.specs.WellFormed.{is_whole, meets, is_met, has_prerequisite}
use Rattle.net_base.proofs.Rows.{every_field}
use Rattle.of_wire.specs.Spelling.{placed, placed_at, first_above, stands}

abbrev pub AreBelow : ℕ → List Field → Type 0
AreBelow n fields = AllByRecursion (λ g. number_of g.id < n) fields

abbrev pub AreFrom : ℕ → List Field → Type 0
AreFrom n fields = AllByRecursion (λ g. n ≤ number_of g.id) fields

pub below_push : (n : ℕ) (fields : List Field) (f : Field) → AreBelow n fields → number_of f.id < n → AreBelow n (fields ++ f ∷ [])
below_push n [] f h k = (k, tt)
below_push n (g ∷ fields) f h k = (h.0, below_push n fields f h.1 k)

pub below_more : (m n : ℕ) (fields : List Field) → AreBelow m fields → m ≤ n → AreBelow n fields
below_more m n [] h k = tt
below_more m n (g ∷ fields) h k = (omega (arith, h.0), below_more m n fields h.1 k)

pub from_above : (n : ℕ) (fields : List Field) → AllByRecursion (λ g. n < number_of g.id) fields → AreFrom n fields
from_above n [] h = tt
from_above n (g ∷ fields) h = (omega (arith, h.0), from_above n fields h.1)

pub from_below : (n : ℕ) (fields : List Field) → AllByRecursion (λ g. n < number_of g.id) fields → AreFrom (suc n) fields
from_below n [] h = tt
from_below n (g ∷ fields) h = (omega (arith, h.0), from_below n fields h.1)

none_above : (n : ℕ) (fields : List Field) → AreBelow n fields → length fields ≤ position_or_len (λ (g : Field). ltb n (number_of g.id)) fields
none_above n [] h = omega arith
none_above n (g ∷ fields) h =
    let t : ltb n (number_of g.id) ≡ false = le-ltb _ _ (omega (arith, h.0)) in
    let more = none_above n fields h.1 in
    let is : position_or_len (λ (g : Field). ltb n (number_of g.id)) (g ∷ fields) ≡ suc (position_or_len (λ (g : Field). ltb n (number_of g.id)) fields) = rw t (omega arith) in
    omega (arith, is)

pub placed_last : (f : Field) (fields : List Field) → AreBelow (number_of f.id) fields → placed f fields ≡ fields ++ f ∷ []
unfolding placed
placed_last f fields h =
    let n = number_of f.id in
    let at = position_or_len (λ (g : Field). ltb n (number_of g.id)) fields in
    let none : first_above n fields ≡ None = cond-false (ltb at (length fields)) (Some at) None (le-ltb _ _ (none_above n fields h)) in
    ap (λ o. placed_at o f fields) none

pub stands_not : (id : FieldId) (fields : List Field) → AreBelow (number_of id) fields → stands id fields ≡ false
stands_not id [] h = refl
stands_not id (g ∷ fields) h = or_from _ _ (ne_eqb _ _ (λ e. omega (arith, e, h.0))) (stands_not id fields h.1)

-- ---- prerequisites

abbrev asked : Prerequisite → ℕ
asked Tagged = number_of VlanVid
asked (Exactly id value) = number_of id
asked (Either id value other) = number_of id

not_whole : (id : FieldId) (f : Field) → number_of id < number_of f.id → is_whole id f ≡ false
not_whole id f h = and_left (eqb (number_of f.id) (number_of id)) _ (ne_eqb _ _ (λ e. omega (arith, e, h)))

meets_not : (p : Prerequisite) (f : Field) → asked p < number_of f.id → meets p f ≡ false
meets_not Tagged f h = and_left (eqb (number_of f.id) (number_of VlanVid)) _ (ne_eqb _ _ (λ e. omega (arith, e, h)))
meets_not (Exactly id value) f h = and_left (is_whole id f) _ (not_whole id f h)
meets_not (Either id value other) f h = and_left (is_whole id f) _ (not_whole id f h)

-- all that is asked for has a number below this one
abbrev are_below : ℕ → List Prerequisite → Bool
are_below n ps = list_all (λ p. ltb (asked p) n) ps

none_meets : (p : Prerequisite) (n : ℕ) (fields : List Field) → asked p < n → AreFrom n fields → list_any (meets p) fields ≡ false
none_meets p n [] low h = refl
none_meets p n (g ∷ fields) low h = or_from _ _ (meets_not p g (omega (arith, low, h.0))) (none_meets p n fields low h.1)

or_left_is : (a b : Bool) → (a || b) ≡ true → b ≡ false → a ≡ true
or_left_is true b e k = refl
or_left_is false b e k = sym k ∙ e

met_before : (ps : List Prerequisite) (n : ℕ) (before rest : List Field) → are_below n ps ≡ true → AreFrom n rest → list_all (is_met (before ++ rest)) ps ≡ true → list_all (is_met before) ps ≡ true
met_before [] n before rest low h e = refl
met_before (p ∷ ps) n before rest low h e =
    let lows = and_parts (ltb (asked p) n) (are_below n ps) low in
    let met = and_parts (is_met (before ++ rest) p) (list_all (is_met (before ++ rest)) ps) e in
    let first : is_met before p ≡ true = or_left_is _ _ (sym (list_any-append (meets p) before rest) ∙ met.0) (none_meets p n rest (ltb-true (asked p) n lows.0) h) in
    let more : list_all (is_met before) ps ≡ true = met_before ps n before rest lows.1 h met.1 in
    λ i. first i && more i

-- what a field asks for has a lower number, so it stands before it
pub prerequisite_before : (id : FieldId) (before rest : List Field) → AreFrom (number_of id) rest → has_prerequisite id (before ++ rest) ≡ true → has_prerequisite id before ≡ true
prerequisite_before id before rest h e =
    met_before (prerequisites_of id) (number_of id) before rest (every_field (λ id. are_below (number_of id) (prerequisites_of id)) refl id) h e
