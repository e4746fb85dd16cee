-- Where no value is wrong, there is no fault.
use Rattle.std.specs.Prelude.{◌≡◌, ℕ, ◌≤◌, Bool, true, false, not, List, [], ◌∷◌, ◌++◌, map, Option, Some, None, nat_lt, if◌then◌else◌}
use Rattle.std.specs.List.{AllByRecursion, flat_map, filter_map, list_any, zip, cons_option}
use Rattle.std.proofs.Common.{◌⊎◌, inl, inr, refl, sym, ap, ◌∙◌, subst}
use Rattle.std.proofs.lemmas.Bool.{le-ltb, or_from}
use Rattle.std.proofs.lemmas.Option.{same_Some, none-some}
use Rattle.conf_types.specs.Lists.{EachBefore}
use Rattle.conf_shape.specs.declared.refused.ConfCause.{ConfCause}
use Rattle.conf_shape.specs.declared.refused.ConfCause.TheVariants.{TooMany}
use Rattle.conf_shape.specs.declared.refused.LimitName.{LimitName}
use Rattle.conf_rules.specs.Limits.{above}
use Rattle.conf_rules.specs.Places.{fault, fault_if, with_earlier, is_repeat}
use Rattle.law_checks.proofs.Empty.{HasNoRepeat, IsBehind}
use Rattle.law_checks.proofs.Members.{IsIn, of_all, all_by, of_joined, in_mapped, in_kept}

-- ---- empty lists

pub both_empty : {A : Type 0} (xs ys : List A) → xs ≡ [] → ys ≡ [] → xs ++ ys ≡ []
both_empty xs ys a b = ap (λ l. l ++ ys) a ∙ b

pub all_empty : {A B : Type 0} (f : A → List B) (xs : List A) → ((x : A) → IsIn xs x → f x ≡ []) → flat_map f xs ≡ []
all_empty f [] h = refl
all_empty f (x ∷ xs) h = both_empty (f x) (flat_map f xs) (h x (inl refl)) (all_empty f xs (λ y i. h y (inr i)))

pub no_fault : (test : Bool) (cause : ConfCause) (site : List (List ℕ)) → test ≡ false → fault_if test cause site ≡ []
no_fault test cause site is = ap (λ (b : Bool). if b then fault cause site ∷ [] else []) is

pub no_lack : (test : Bool) (cause : ConfCause) (site : List (List ℕ)) → test ≡ true → fault_if (not test) cause site ≡ []
no_lack test cause site is = ap (λ (b : Bool). if not b then fault cause site ∷ [] else []) is

pub not_above : (most n : ℕ) (name : LimitName) (site : List (List ℕ)) → n ≤ most → above most n name site ≡ []
not_above most n name site le = no_fault (nat_lt most n) (TooMany name) site (le-ltb most n le)

-- ---- values at their places

pub is_value : {A : Type 0} (items : List (List (List ℕ) × A)) (xs : List A) → map (λ (a : List (List ℕ) × A). a.1) items ≡ xs → (a : List (List ℕ) × A) → IsIn items a → IsIn xs a.1
is_value {A = A} items xs is a i = subst (λ (l : List A). IsIn l a.1) is (in_mapped (λ (a : List (List ℕ) × A). a.1) items a i)

pub of_zipped : {A B : Type 0} (f : A → B) (xs : List A) (pair : A × B) → IsIn (zip xs (map f xs)) pair → IsIn xs pair.0 × (f pair.0 ≡ pair.1)
of_zipped f [] pair i = absurd i
of_zipped {A = A} {B = B} f (x ∷ xs) pair (inl e) = (inl (ap (λ (p : A × B). p.0) e), ap f (sym (ap (λ (p : A × B). p.0) e)) ∙ ap (λ (p : A × B). p.1) e)
of_zipped f (x ∷ xs) pair (inr i) = let m = of_zipped f xs pair i in (inr m.0, m.1)

-- ---- no repeats

pub none_any : {A : Type 0} (t : A → Bool) (xs : List A) → ((x : A) → IsIn xs x → t x ≡ false) → list_any t xs ≡ false
none_any t [] h = refl
none_any t (x ∷ xs) h = or_from (t x) (list_any t xs) (h x (inl refl)) (none_any t xs (λ y i. h y (inr i)))

pub repeats_none : {A : Type 0} (agrees : A → A → Bool) (earlier xs : List A) → HasNoRepeat agrees earlier xs → AllByRecursion (λ item. is_repeat agrees item ≡ false) (with_earlier earlier xs)
repeats_none agrees earlier [] r = tt
repeats_none {A = A} agrees earlier (x ∷ xs) r = (none_any (λ y. agrees y x) earlier (λ y i. r.across y x i (inl refl)), repeats_none agrees (earlier ++ x ∷ []) xs (record { among = r.among.1; across = cross }))
  where
    by : (a b : A) → IsIn xs b → IsIn earlier a ⊎ IsIn (x ∷ []) a → agrees a b ≡ false
    by a b j (inl i) = r.across a b i (inr j)
    by a b j (inr (inl e)) = subst (λ c. agrees c b ≡ false) e (of_all (λ c. agrees x c ≡ false) xs r.among.0 b j)
    by a b j (inr (inr i)) = absurd i

    cross : (a b : A) → IsIn (earlier ++ x ∷ []) a → IsIn xs b → agrees a b ≡ false
    cross a b i j = by a b j (of_joined earlier (x ∷ []) a i)

pub repeat_free : {A : Type 0} (agrees : A → A → Bool) (xs : List A) → EachBefore (λ a b. agrees a b ≡ false) xs → (item : List A × A) → IsIn (with_earlier [] xs) item → is_repeat agrees item ≡ false
repeat_free agrees xs r item i = of_all (λ item. is_repeat agrees item ≡ false) (with_earlier [] xs) (repeats_none agrees [] xs (record { among = r; across = λ a b j. absurd j })) item i

-- an item of those behind others
pub of_earlier : {A : Type 0} (earlier xs : List A) (item : List A × A) → IsIn (with_earlier earlier xs) item → IsIn xs item.1
of_earlier earlier [] item i = absurd i
of_earlier {A = A} earlier (x ∷ xs) item (inl e) = inl (ap (λ (p : List A × A). p.1) e)
of_earlier earlier (x ∷ xs) item (inr i) = inr (of_earlier (earlier ++ x ∷ []) xs item i)

-- ---- parts, each behind what those before it stand for

pub empty_behind : {A B C : Type 0} (f : A → B) (P : B → A → Type 0) (g : A × (List B × B) → List C) (earlier : List B) (xs : List A)
    → ((x : A) → IsIn xs x → (e : List B) → ((b : B) → IsIn e b → P b x) → g (x, (e, f x)) ≡ []) → IsBehind f P earlier xs → flat_map g (zip xs (with_earlier earlier (map f xs))) ≡ []
empty_behind f P g earlier [] h r = refl
empty_behind {A = A} {B = B} f P g earlier (x ∷ xs) h r =
    both_empty (g (x, (earlier, f x))) (flat_map g (zip xs (with_earlier (earlier ++ f x ∷ []) (map f xs)))) (h x (inl refl) earlier (λ b i. r.across b x i (inl refl)))
    (empty_behind f P g (earlier ++ f x ∷ []) xs (λ y i. h y (inr i)) (record { among = r.among.1; across = cross }))
  where
    by : (b : B) (y : A) → IsIn xs y → IsIn earlier b ⊎ IsIn (f x ∷ []) b → P b y
    by b y j (inl i) = r.across b y i (inr j)
    by b y j (inr (inl e)) = subst (λ c. P c y) e (of_all (λ z. P (f x) z) xs r.among.0 y j)
    by b y j (inr (inr i)) = absurd i

    cross : (b : B) (y : A) → IsIn (earlier ++ f x ∷ []) b → IsIn xs y → P b y
    cross b y i j = by b y j (of_joined earlier (f x ∷ []) b i)

-- ---- what holds of each two of a list that is made of another

pub all_unmapped : {A B : Type 0} (P : B → Type 0) (f : A → B) (xs : List A) → AllByRecursion P (map f xs) → AllByRecursion (λ x. P (f x)) xs
all_unmapped P f [] all = tt
all_unmapped P f (x ∷ xs) all = (all.0, all_unmapped P f xs all.1)

pub before_unmapped : {A B : Type 0} (R : B → B → Type 0) (f : A → B) (xs : List A) → EachBefore R (map f xs) → EachBefore (λ x y. R (f x) (f y)) xs
before_unmapped R f [] r = tt
before_unmapped R f (x ∷ xs) r = (all_unmapped (R (f x)) f xs r.0, before_unmapped R f xs r.1)

pub before_unkept : {A B : Type 0} (R : B → B → Type 0) (h : A → Option B) (xs : List A) → EachBefore R (filter_map h xs) → EachBefore (λ x y. (a b : B) → h x ≡ Some a → h y ≡ Some b → R a b) xs
before_unkept R h [] r = tt
before_unkept {A = A} {B = B} R h (x ∷ xs) r = by (h x) refl (λ s. before_unkept R h xs s) r
  where
    by : (o : Option B) → h x ≡ o → (EachBefore R (filter_map h xs) → EachBefore (λ x y. (a b : B) → h x ≡ Some a → h y ≡ Some b → R a b) xs) → EachBefore R (cons_option o (filter_map h xs)) → EachBefore (λ x y. (a b : B) → h x ≡ Some a → h y ≡ Some b → R a b) (x ∷ xs)
    by None is more s = (all_by _ xs (λ y i a b ha hb. absurd (none-some a (sym is ∙ ha))), more s)
    by (Some c) is more s = (all_by _ xs (λ y i a b ha hb. subst (λ d. R d b) (same_Some c a (sym is ∙ ha)) (of_all (R c) (filter_map h xs) s.0 b (in_kept h xs y b i hb))), more s.1)
