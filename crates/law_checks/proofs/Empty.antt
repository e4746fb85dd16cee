-- What no fault at any place says of the values that stand there.
use Rattle.std.specs.Prelude.{◌≡◌, ℕ, ◌+◌, ◌≤◌, Bool, true, false, not, List, [], ◌∷◌, ◌++◌, map, length, None, Some, nat_lt, if◌then◌else◌}
use Rattle.std.specs.List.{AllByRecursion, flat_map, enumerate_from, zip}
use Rattle.std.proofs.Common.{inl, inr, refl, ap, subst, arith}
use Rattle.std.proofs.lemmas.Bool.{ltb-false}
use Rattle.conf_types.specs.Lists.{EachBefore}
use Rattle.conf_shape.specs.declared.raw.OneOrList.{OneOrList}
use Rattle.conf_shape.specs.declared.raw.OneOrList.TheVariants as several
use Rattle.conf_shape.specs.declared.refused.ConfCause.{ConfCause}
use Rattle.conf_shape.specs.declared.refused.ConfFault.{ConfFault}
use Rattle.conf_shape.specs.declared.refused.LimitName.{LimitName}
use Rattle.conf_resolve.specs.Resolved.{items_of}
use Rattle.conf_rules.specs.Limits.{above}
use Rattle.conf_rules.specs.Places.{fault_if, fault_if_some, first, nth, each_at, items_at, with_earlier, is_repeat}
use Rattle.law_checks.proofs.Members.{IsIn, of_all, all_by, all_mapped, in_front, behind, fails}

-- ---- empty lists

pub none_left : {A : Type 0} (xs ys : List A) → xs ++ ys ≡ [] → xs ≡ []
none_left [] ys is = refl
none_left (x ∷ xs) ys is = absurd (cc)

pub none_right : {A : Type 0} (xs ys : List A) → xs ++ ys ≡ [] → ys ≡ []
none_right [] ys is = is
none_right (x ∷ xs) ys is = absurd (cc)

pub none_flat : {A B : Type 0} (f : A → List B) (xs : List A) → flat_map f xs ≡ [] → AllByRecursion (λ x. f x ≡ []) xs
none_flat f [] is = tt
none_flat f (x ∷ xs) is = (none_left (f x) (flat_map f xs) is, none_flat f xs (none_right (f x) (flat_map f xs) is))

pub none_at : {A B : Type 0} (f : A → List B) (xs : List A) → flat_map f xs ≡ [] → (x : A) → IsIn xs x → f x ≡ []
none_at f xs is = of_all (λ x. f x ≡ []) xs (none_flat f xs is)

pub no_length : {A : Type 0} (xs : List A) → length xs ≡ 0 → xs ≡ []
no_length [] is = refl
no_length (x ∷ xs) is = absurd (omega arith)

-- ---- no fault

pub passes : (test : Bool) (cause : ConfCause) (site : List (List ℕ)) → fault_if test cause site ≡ [] → test ≡ false
passes false cause site is = refl
passes true cause site is = absurd (cc)

pub holds : (test : Bool) (cause : ConfCause) (site : List (List ℕ)) → fault_if (not test) cause site ≡ [] → test ≡ true
holds true cause site is = refl
holds false cause site is = absurd (cc)

pub within : (most n : ℕ) (name : LimitName) (site : List (List ℕ)) → above most n name site ≡ [] → n ≤ most
within most n name site is = ltb-false most n (passes (nat_lt most n) _ site is)

pub no_first : (causes : List ConfCause) (site : List (List ℕ)) → fault_if_some (first causes) site ≡ [] → causes ≡ []
no_first [] site is = refl
no_first (cause ∷ causes) site is = absurd (cc)

pub no_cause : (test : Bool) (cause : ConfCause) (site : List (List ℕ)) → fault_if_some (if test then None else Some cause) site ≡ [] → test ≡ true
no_cause true cause site is = refl
no_cause false cause site is = absurd (cc)

-- ---- values at their places

from_values : {A : Type 0} (site : List (List ℕ)) (n : ℕ) (xs : List A) → map (λ (a : List (List ℕ) × A). a.1) (flat_map (λ item. (nth site item.0, item.1) ∷ []) (enumerate_from n xs)) ≡ xs
from_values site n [] = refl
from_values site n (x ∷ xs) = ap (λ l. x ∷ l) (from_values site (n + 1) xs)

pub values_at : {A : Type 0} (site : List (List ℕ)) (xs : List A) → map (λ (a : List (List ℕ) × A). a.1) (each_at site xs) ≡ xs
values_at site xs = from_values site 0 xs

pub values_of : {A : Type 0} (site : List (List ℕ)) (v : OneOrList A) → map (λ (a : List (List ℕ) × A). a.1) (items_at site v) ≡ items_of v
values_of site (several.One x) = refl
values_of site (several.List xs) = values_at site xs

-- what holds of the values, each at its place, holds of the values
pub all_values : {A : Type 0} (P : A → Type 0) (items : List (List (List ℕ) × A)) (xs : List A) → map (λ (a : List (List ℕ) × A). a.1) items ≡ xs → AllByRecursion (λ a. P a.1) items → AllByRecursion P xs
all_values {A = A} P items xs is all = subst (λ l. AllByRecursion P l) is (all_mapped P (λ (a : List (List ℕ) × A). a.1) items all)

-- a fault of none at its place
pub none_of_values : {A B : Type 0} (f : List (List ℕ) × A → List B) (items : List (List (List ℕ) × A)) (xs : List A) → map (λ (a : List (List ℕ) × A). a.1) items ≡ xs → flat_map f items ≡ [] → (x : A) → IsIn xs x → (site : List (List ℕ)) × (f (site, x) ≡ [])
none_of_values {A = A} f items xs is none =
    of_all (λ x. (site : List (List ℕ)) × (f (site, x) ≡ [])) xs (all_values (λ x. (site : List (List ℕ)) × (f (site, x) ≡ [])) items xs is
    (all_by (λ a. (site : List (List ℕ)) × (f (site, a.1) ≡ [])) items (λ a i. (a.0, none_at f items none a i))))

-- ---- no repeats

pub record HasNoRepeat {A : Type 0} (agrees : A → A → Bool) (earlier xs : List A) : Type 0 where
  pub among : EachBefore (λ a b. agrees a b ≡ false) xs
  pub across : (a b : A) → IsIn earlier a → IsIn xs b → agrees a b ≡ false

pub no_repeats : {A : Type 0} (agrees : A → A → Bool) (earlier xs : List A) → AllByRecursion (λ item. is_repeat agrees item ≡ false) (with_earlier earlier xs) → HasNoRepeat agrees earlier xs
no_repeats agrees earlier [] all = record { among = tt; across = λ a b i j. absurd j }
no_repeats {A = A} agrees earlier (x ∷ xs) all = by (no_repeats agrees (earlier ++ x ∷ []) xs all.1)
  where
    cross : HasNoRepeat agrees (earlier ++ x ∷ []) xs → (a b : A) → IsIn earlier a → IsIn (x ∷ xs) b → agrees a b ≡ false
    cross more a b i (inl e) = subst (λ c. agrees a c ≡ false) e (fails (λ y. agrees y x) earlier all.0 a i)
    cross more a b i (inr j) = more.across a b (in_front earlier (x ∷ []) a i) j

    by : HasNoRepeat agrees (earlier ++ x ∷ []) xs → HasNoRepeat agrees earlier (x ∷ xs)
    by more = record {
      among = (all_by (λ b. agrees x b ≡ false) xs (λ b j. more.across x b (behind earlier (x ∷ []) x (inl refl)) j), more.among);
      across = cross more;
    }

-- where a fault of each repeat is none
pub none_repeat : {A : Type 0} (agrees : A → A → Bool) (f : List A × A → List ConfFault) (earlier xs : List A) → ((item : List A × A) → f item ≡ [] → is_repeat agrees item ≡ false) → flat_map f (with_earlier earlier xs) ≡ [] → HasNoRepeat agrees earlier xs
none_repeat agrees f earlier xs h none =
    no_repeats agrees earlier xs (all_by (λ item. is_repeat agrees item ≡ false) (with_earlier earlier xs) (λ item i. h item (none_at f (with_earlier earlier xs) none item i)))

-- each stands behind those before it
pub in_earlier : {A : Type 0} (earlier xs : List A) (x : A) → IsIn xs x → (e : List A) × IsIn (with_earlier earlier xs) (e, x)
in_earlier earlier [] x i = absurd i
in_earlier {A = A} earlier (y ∷ xs) x (inl e) = (earlier, inl (ap (λ (z : A). (earlier, z)) e))
in_earlier earlier (y ∷ xs) x (inr i) = let m = in_earlier (earlier ++ y ∷ []) xs x i in (m.0, inr m.1)

-- ---- parts as they are written, each behind what those before it stand for

pub record IsBehind {A B : Type 0} (f : A → B) (P : B → A → Type 0) (earlier : List B) (xs : List A) : Type 0 where
  pub among : EachBefore (λ x y. P (f x) y) xs
  pub across : (b : B) (y : A) → IsIn earlier b → IsIn xs y → P b y

pub each_behind : {A B C : Type 0} (f : A → B) (P : B → A → Type 0) (g : A × (List B × B) → List C) (earlier : List B) (xs : List A)
    → ((x : A) (e : List B) → g (x, (e, f x)) ≡ [] → (b : B) → IsIn e b → P b x) → flat_map g (zip xs (with_earlier earlier (map f xs))) ≡ [] → IsBehind f P earlier xs
each_behind f P g earlier [] h none = record { among = tt; across = λ b y i j. absurd j }
each_behind {A = A} {B = B} f P g earlier (x ∷ xs) h none =
    by (each_behind f P g (earlier ++ f x ∷ []) xs h (none_right (g (x, (earlier, f x))) (flat_map g (zip xs (with_earlier (earlier ++ f x ∷ []) (map f xs)))) none))
  where
    cross : IsBehind f P (earlier ++ f x ∷ []) xs → (b : B) (y : A) → IsIn earlier b → IsIn (x ∷ xs) y → P b y
    cross more b y i (inl e) = subst (λ z. P b z) e (h x earlier (none_left (g (x, (earlier, f x))) (flat_map g (zip xs (with_earlier (earlier ++ f x ∷ []) (map f xs)))) none) b i)
    cross more b y i (inr j) = more.across b y (in_front earlier (f x ∷ []) b i) j

    by : IsBehind f P (earlier ++ f x ∷ []) xs → IsBehind f P earlier (x ∷ xs)
    by more = record {
      among = (all_by (λ y. P (f x) y) xs (λ y j. more.across (f x) y (behind earlier (f x ∷ []) (f x) (inl refl)) j), more.among);
      across = cross more;
    }

pub none_behind : {A B C : Type 0} (f : A → B) (g : A × (List B × B) → List C) (earlier : List B) (xs : List A) → flat_map g (zip xs (with_earlier earlier (map f xs))) ≡ [] → AllByRecursion (λ x. (e : List B) × (g (x, (e, f x)) ≡ [])) xs
none_behind f g earlier [] none = tt
none_behind f g earlier (x ∷ xs) none =
    let rest = flat_map g (zip xs (with_earlier (earlier ++ f x ∷ []) (map f xs))) in
    ((earlier, none_left (g (x, (earlier, f x))) rest none), none_behind f g (earlier ++ f x ∷ []) xs (none_right (g (x, (earlier, f x))) rest none))
