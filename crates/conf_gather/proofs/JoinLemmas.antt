-- The place of a key, and what stands there.
use Rattle.std.proofs.Common.{◌≡◌, ℕ, zero, suc, ◌+◌, ◌<◌, ◌≤◌, Bool, true, false, List, [], ◌∷◌, ◌++◌, length, slice_set, Option, Some, None, refl, sym, ap, ◌∙◌, arith}
use Rattle.std.specs.Prelude.{slice_get, option_and_then, is_some, if◌then◌else◌}
use Rattle.std.specs.Option.{option_map, option_map_or}
use Rattle.std.proofs.lemmas.Bool.{cond-true, cond-false}
use Rattle.std.proofs.lemmas.Option.{none-some, same_Some}
use Rattle.yaml_tree.specs.declared.tree.Key.{Key}
use Rattle.yaml_tree.specs.declared.tree.Pair.{Pair}
use Rattle.yaml_tree.specs.declared.tree.Tree.{Tree}
use Rattle.yaml_subset.specs.Entries.{key_eq}
use Rattle.conf_shape.specs.Reads.{entries_of}
use Rattle.conf_gather.specs.Joined.{gathered_under, place_of, with_more, extended}
use Rattle.conf_gather.specs.WrongTypes.{value_of}
use Rattle.conf_gather.proofs.OwnEntries.{own_entries}

-- ---- a key that has no place has no value, and joins nothing

no_value_here : (b : Bool) (n : ℕ) (v : Tree) (place : Option ℕ) (later : Option Tree) → (place ≡ None → later ≡ None) → (if b then Some n else place) ≡ None → (if b then Some v else later) ≡ None
no_value_here true n v place later none is = absurd (none-some n (sym is))
no_value_here false n v place later none is = none is

pub no_value : (key : Key) (n : ℕ) (pairs : List Pair) → place_of key n pairs ≡ None → value_of key pairs ≡ None
no_value key n [] e = refl
no_value key n (p ∷ ps) e = no_value_here (key_eq p.key key) n p.value (place_of key (n + 1) ps) (value_of key ps) (λ is. no_value key (n + 1) ps is) e

none_here : (b : Bool) (n : ℕ) (more ps joined : List Pair) (p : Pair) (place : Option ℕ) → (place ≡ None → joined ≡ ps)
    → (if b then Some n else place) ≡ None → (if b then extended p more ∷ ps else p ∷ joined) ≡ p ∷ ps
none_here true n more ps joined p place later none = absurd (none-some n (sym none))
none_here false n more ps joined p place later none = ap (λ (l : List Pair). p ∷ l) (later none)

pub with_more_none : (key : Key) (n : ℕ) (more pairs : List Pair) → place_of key n pairs ≡ None → with_more key more pairs ≡ pairs
with_more_none key n more [] e = refl
with_more_none key n more (p ∷ ps) e = none_here (key_eq p.key key) n more ps (with_more key more ps) p (place_of key (n + 1) ps) (λ none. with_more_none key (n + 1) more ps none) e

-- ---- a place is one of those from n on

within_here : (b : Bool) (n len at : ℕ) (place : Option ℕ) → (place ≡ Some at → (n + 1 ≤ at) × (at < (n + 1) + len))
    → (if b then Some n else place) ≡ Some at → (n ≤ at) × (at < n + suc len)
within_here true n len at place later is = let same = same_Some n at is in (omega (arith, same), omega (arith, same))
within_here false n len at place later is = let within = later is in (omega (arith, within.0), omega (arith, within.1))

place_within : (key : Key) (n : ℕ) (pairs : List Pair) (at : ℕ) → place_of key n pairs ≡ Some at → (n ≤ at) × (at < n + length pairs)
place_within key n [] at e = absurd (none-some at e)
place_within key n (p ∷ ps) at e = within_here (key_eq p.key key) n (length ps) at (place_of key (n + 1) ps) (λ is. place_within key (n + 1) ps at is) e

pub place_below : (key : Key) (pairs : List Pair) (k : ℕ) → place_of key 0 pairs ≡ Some k → k < length pairs
place_below key pairs k e = let within = place_within key 0 pairs k e in omega (arith, within.1)

pub there : (pairs : List Pair) (k : ℕ) → k < length pairs → (p : Pair) × (slice_get pairs k ≡ Some p)
there [] k l = absurd (omega arith)
there (p ∷ ps) zero l = (p, refl)
there (p ∷ ps) (suc k) l = there ps k (omega (arith, l))

-- ---- what stands at a place, and the section there with more entries

first_here : {A : Type 0} (b : Bool) (n : ℕ) (place : Option ℕ) (here later : A) → (place ≡ Some (n + 0) → ⊥) → (if b then Some n else place) ≡ Some (n + 0) → (if b then here else later) ≡ here
first_here true n place here later never is = refl
first_here false n place here later never is = absurd (never is)

later_here : {A : Type 0} (b : Bool) (n k : ℕ) (place : Option ℕ) (here later made : A) → (place ≡ Some ((n + 1) + k) → later ≡ made) → (if b then Some n else place) ≡ Some (n + suc k) → (if b then here else later) ≡ made
later_here true n k place here later made more is = let at = same_Some n (n + suc k) is in absurd (omega (arith, at))
later_here false n k place here later made more is =
    let on : n + suc k ≡ (n + 1) + k = omega arith in
    more (is ∙ ap (λ (x : ℕ). Some x) on)

not_behind : (key : Key) (n : ℕ) (ps : List Pair) → place_of key (n + 1) ps ≡ Some (n + 0) → ⊥
not_behind key n ps is = let within = place_within key (n + 1) ps (n + 0) is in omega (arith, within.0)

value_from : (key : Key) (n : ℕ) (pairs : List Pair) (k : ℕ) (q : Pair) → place_of key n pairs ≡ Some (n + k) → slice_get pairs k ≡ Some q → value_of key pairs ≡ Some q.value
value_from key n [] k q e same = absurd (none-some (n + k) e)
value_from key n (p ∷ ps) zero q e same =
    first_here (key_eq p.key key) n (place_of key (n + 1) ps) (Some p.value) (value_of key ps) (not_behind key n ps) e ∙ ap (λ (x : Pair). Some x.value) (same_Some p q same)
value_from key n (p ∷ ps) (suc k) q e same =
    later_here (key_eq p.key key) n k (place_of key (n + 1) ps) (Some p.value) (value_of key ps) (Some q.value) (λ is. value_from key (n + 1) ps k q is same) e

joins_from : (key : Key) (n : ℕ) (more pairs : List Pair) (k : ℕ) (q : Pair) → place_of key n pairs ≡ Some (n + k) → slice_get pairs k ≡ Some q → with_more key more pairs ≡ slice_set pairs k (extended q more)
joins_from key n more [] k q e same = absurd (none-some (n + k) e)
joins_from key n more (p ∷ ps) zero q e same =
    first_here (key_eq p.key key) n (place_of key (n + 1) ps) (extended p more ∷ ps) (p ∷ with_more key more ps) (not_behind key n ps) e ∙ ap (λ (x : Pair). extended x more ∷ ps) (same_Some p q same)
joins_from key n more (p ∷ ps) (suc k) q e same =
    later_here (key_eq p.key key) n k (place_of key (n + 1) ps) (extended p more ∷ ps) (p ∷ with_more key more ps) (p ∷ slice_set ps k (extended q more))
    (λ is. ap (λ (l : List Pair). p ∷ l) (joins_from key (n + 1) more ps k q is same)) e

from_none : (k : ℕ) (found : Option ℕ) → found ≡ Some k → found ≡ Some (0 + k)
from_none k found e = let from : k ≡ 0 + k = omega arith in e ∙ ap (λ (x : ℕ). Some x) from

pub value_there : (key : Key) (pairs : List Pair) (k : ℕ) (q : Pair) → place_of key 0 pairs ≡ Some k → slice_get pairs k ≡ Some q → value_of key pairs ≡ Some q.value
value_there key pairs k q e same = value_from key 0 pairs k q (from_none k (place_of key 0 pairs) e) same

-- what stands where the key is told to have its place
pub value_told : (key : Key) (pairs : List Pair) (at : Option ℕ) → place_of key 0 pairs ≡ at → option_map (λ p. p.value) (option_and_then (slice_get pairs) at) ≡ value_of key pairs
value_told key pairs None e = sym (no_value key 0 pairs e)
value_told key pairs (Some k) e =
    let here = there pairs k (place_below key pairs k e) in
    ap (λ (found : Option Pair). option_map (λ p. p.value) found) here.1 ∙ sym (value_there key pairs k here.0 e here.1)

pub joins_at : (key : Key) (more pairs : List Pair) (k : ℕ) (q : Pair) → place_of key 0 pairs ≡ Some k → slice_get pairs k ≡ Some q → with_more key more pairs ≡ slice_set pairs k (extended q more)
joins_at key more pairs k q e same = joins_from key 0 more pairs k q (from_none k (place_of key 0 pairs) e) same

-- an item that was put in the place of another one is replaced itself
pub set_again : (pairs : List Pair) (k : ℕ) (p q : Pair) → slice_set (slice_set pairs k p) k q ≡ slice_set pairs k q
set_again [] k p q = refl
set_again (x ∷ xs) zero p q = refl
set_again (x ∷ xs) (suc k) p q = ap (λ (l : List Pair). x ∷ l) (set_again xs k p q)

-- ---- places when an entry comes

pub other_place : (k : Key) (n : ℕ) (ps : List Pair) (p : Pair) → key_eq p.key k ≡ false → place_of k n (ps ++ p ∷ []) ≡ place_of k n ps
other_place k n [] p other = cond-false (key_eq p.key k) (Some n) None other
other_place k n (q ∷ qs) p other = ap (λ (found : Option ℕ). if key_eq q.key k then Some n else found) (other_place k (n + 1) qs p other)

new_here : {A : Type 0} (b : Bool) (v : Tree) (later : Option Tree) (here behind made : A) → is_some (if b then Some v else later) ≡ false → (is_some later ≡ false → behind ≡ made) → (if b then here else behind) ≡ made
new_here true v later here behind made none more = absurd cc
new_here false v later here behind made none more = more none

pub new_place : (k : Key) (n : ℕ) (ps : List Pair) (p : Pair) → key_eq p.key k ≡ true → is_some (value_of k ps) ≡ false → place_of k n (ps ++ p ∷ []) ≡ Some (n + length ps)
new_place k n [] p same none = let from : n ≡ n + 0 = omega arith in cond-true (key_eq p.key k) (Some n) None same ∙ ap (λ (x : ℕ). Some x) from
new_place k n (q ∷ qs) p same none =
    let on : (n + 1) + length qs ≡ n + suc (length qs) = omega arith in
    new_here (key_eq q.key k) q.value (value_of k qs) (Some n) (place_of k (n + 1) (qs ++ p ∷ [])) (Some (n + suc (length qs))) none
    (λ is. new_place k (n + 1) qs p same is ∙ ap (λ (x : ℕ). Some x) on)

pub new_value : (k : Key) (ps : List Pair) (p : Pair) → key_eq p.key k ≡ true → is_some (value_of k ps) ≡ false → value_of k (ps ++ p ∷ []) ≡ Some p.value
new_value k [] p same none = cond-true (key_eq p.key k) (Some p.value) None same
new_value k (q ∷ qs) p same none =
    new_here (key_eq q.key k) q.value (value_of k qs) (Some q.value) (value_of k (qs ++ p ∷ [])) (Some p.value) none (λ is. new_value k qs p same is)

-- ---- places and entries when a section gets more

same_place_here : (k : Key) (n : ℕ) (more ps joint : List Pair) (p : Pair) (b : Bool) → place_of k (n + 1) joint ≡ place_of k (n + 1) ps → place_of k n (if b then extended p more ∷ ps else p ∷ joint) ≡ place_of k n (p ∷ ps)
same_place_here k n more ps joint p true later = refl
same_place_here k n more ps joint p false later = ap (λ (found : Option ℕ). if key_eq p.key k then Some n else found) later

pub same_place : (k key : Key) (n : ℕ) (more ps : List Pair) → place_of k n (with_more key more ps) ≡ place_of k n ps
same_place k key n more [] = refl
same_place k key n more (p ∷ ps) = same_place_here k n more ps (with_more key more ps) p (key_eq p.key key) (same_place k key (n + 1) more ps)

abbrev entries_under : Option Tree → List Pair
entries_under found = option_map_or entries_of found []

module _ (key : Key) (more : List Pair) where
  more_here : (ps : List Pair) (p : Pair) (b : Bool) → key_eq p.key key ≡ b → (is_some (value_of key ps) ≡ true → gathered_under key (with_more key more ps) ≡ gathered_under key ps ++ more)
      → is_some (if b then Some p.value else value_of key ps) ≡ true → gathered_under key (if b then extended p more ∷ ps else p ∷ with_more key more ps) ≡ gathered_under key (p ∷ ps) ++ more
  more_here ps p true is later has =
      ap entries_under (cond-true (key_eq p.key key) (Some (extended p more).value) (value_of key ps) is)
      ∙ own_entries (entries_of p.value ++ more)
      ∙ sym (ap (λ (found : Option Tree). entries_under found ++ more) (cond-true (key_eq p.key key) (Some p.value) (value_of key ps) is))
  more_here ps p false is later has =
      ap entries_under (cond-false (key_eq p.key key) (Some p.value) (value_of key (with_more key more ps)) is)
      ∙ later has
      ∙ sym (ap (λ (found : Option Tree). entries_under found ++ more) (cond-false (key_eq p.key key) (Some p.value) (value_of key ps) is))

  pub more_under : (ps : List Pair) → is_some (value_of key ps) ≡ true → gathered_under key (with_more key more ps) ≡ gathered_under key ps ++ more
  more_under [] has = absurd cc
  more_under (p ∷ ps) has = more_here ps p (key_eq p.key key) refl (λ is. more_under ps is) has
