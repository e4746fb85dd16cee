-- Facts of each element, along what makes one list of another.
use Rattle.std.proofs.Common.{◌≡◌, suc, arith, Bool, true, false, cond, List, [], ◌∷◌, ◌++◌, map, filter, Option, Some, None, refl, sym, ◌∙◌, true≢false}
use Rattle.std.specs.Prelude.{Contains}
use Rattle.std.specs.List.{AllByRecursion, filter_map, flat_map, cons_option}
use Rattle.std.proofs.lemmas.List.Elements.{All-contains, All-from_recursion}
use Rattle.conf_types.specs.Lists.{EachBefore}

pub all_from : {A : Type 0} {P Q : A → Type 0} → ((x : A) → P x → Q x) → (xs : List A) → AllByRecursion P xs → AllByRecursion Q xs
all_from h [] all = tt
all_from h (x ∷ xs) all = (h x all.0, all_from h xs all.1)

pub all_append : {A : Type 0} (P : A → Type 0) (xs ys : List A) → AllByRecursion P xs → AllByRecursion P ys → AllByRecursion P (xs ++ ys)
all_append P [] ys h k = k
all_append P (x ∷ xs) ys h k = (h.0, all_append P xs ys h.1 k)

pub all_map : {A B : Type 0} (f : A → B) (P : B → Type 0) (xs : List A) → AllByRecursion (λ x. P (f x)) xs → AllByRecursion P (map f xs)
all_map f P [] all = tt
all_map f P (x ∷ xs) all = (all.0, all_map f P xs all.1)

pub all_filter : {A : Type 0} (P : A → Type 0) (p : A → Bool) (xs : List A) → AllByRecursion P xs → AllByRecursion P (filter p xs)
all_filter P p [] all = tt
all_filter P p (x ∷ xs) all = kept (p x) all.0 (all_filter P p xs all.1)
  where
    kept : (b : Bool) → P x → AllByRecursion P (filter p xs) → AllByRecursion P (cond b (x ∷ filter p xs) (filter p xs))
    kept true h more = (h, more)
    kept false h more = more

-- and of those alone that pass
pub all_passing : {A : Type 0} (P : A → Type 0) (p : A → Bool) (xs : List A) → AllByRecursion (λ x. p x ≡ true → P x) xs → AllByRecursion P (filter p xs)
all_passing P p [] all = tt
all_passing P p (x ∷ xs) all = kept (p x) refl (all_passing P p xs all.1)
  where
    kept : (b : Bool) → p x ≡ b → AllByRecursion P (filter p xs) → AllByRecursion P (cond b (x ∷ filter p xs) (filter p xs))
    kept true is more = (all.0 is, more)
    kept false is more = more

pub all_filter_map : {A B : Type 0} (f : A → Option B) (P : B → Type 0) (xs : List A) → AllByRecursion (λ x. (y : B) → f x ≡ Some y → P y) xs → AllByRecursion P (filter_map f xs)
all_filter_map {B = B} f P [] all = tt
all_filter_map {B = B} f P (x ∷ xs) all = added (f x) all.0 (all_filter_map f P xs all.1)
  where
    added : (o : Option B) → ((y : B) → o ≡ Some y → P y) → AllByRecursion P (filter_map f xs) → AllByRecursion P (cons_option o (filter_map f xs))
    added None h more = more
    added (Some y) h more = (h y refl, more)

pub all_flat_map : {A B : Type 0} (f : A → List B) (P : B → Type 0) (xs : List A) → AllByRecursion (λ x. AllByRecursion P (f x)) xs → AllByRecursion P (flat_map f xs)
all_flat_map f P [] all = tt
all_flat_map f P (x ∷ xs) all = all_append P (f x) (flat_map f xs) all.0 (all_flat_map f P xs all.1)

-- ---- and back

pub all_of_append : {A : Type 0} (P : A → Type 0) (xs ys : List A) → AllByRecursion P (xs ++ ys) → AllByRecursion P xs × AllByRecursion P ys
all_of_append P [] ys all = (tt, all)
all_of_append P (x ∷ xs) ys all = let more = all_of_append P xs ys all.1 in ((all.0, more.0), more.1)

pub all_of_map : {A B : Type 0} (f : A → B) (P : B → Type 0) (xs : List A) → AllByRecursion P (map f xs) → AllByRecursion (λ x. P (f x)) xs
all_of_map f P [] all = tt
all_of_map f P (x ∷ xs) all = (all.0, all_of_map f P xs all.1)

pub all_of_filter : {A : Type 0} (P : A → Type 0) (p : A → Bool) (xs : List A) → AllByRecursion P (filter p xs) → AllByRecursion (λ x. p x ≡ true → P x) xs
all_of_filter P p [] all = tt
all_of_filter P p (x ∷ xs) all = one (p x) refl (λ more. all_of_filter P p xs more) all
  where
    one : (b : Bool) → p x ≡ b → (AllByRecursion P (filter p xs) → AllByRecursion (λ y. p y ≡ true → P y) xs)
        → AllByRecursion P (cond b (x ∷ filter p xs) (filter p xs)) → AllByRecursion (λ y. p y ≡ true → P y) (x ∷ xs)
    one true is behind here = ((λ _. here.0), behind here.1)
    one false is behind here = ((λ yes. absurd (true≢false (sym yes ∙ is))), behind here)

-- what holds of each holds of one of them
pub all_contains : {A : Type 0} (P : A → Type 0) (xs : List A) → AllByRecursion P xs → (x : A) → Contains xs x → P x
all_contains P xs all x here = All-contains P xs x (All-from_recursion P xs all) here

-- ---- of two elements

pub before_from : {A : Type 0} {R S : A → A → Type 0} → ((x y : A) → R x y → S x y) → (xs : List A) → EachBefore R xs → EachBefore S xs
before_from h [] all = tt
before_from {R = R} {S = S} h (x ∷ xs) all = (all_from {P = R x} {Q = S x} (λ y is. h x y is) xs all.0, before_from h xs all.1)

pub before_append : {A : Type 0} (R : A → A → Type 0) (xs ys : List A) → EachBefore R xs → EachBefore R ys → AllByRecursion (λ x. AllByRecursion (R x) ys) xs → EachBefore R (xs ++ ys)
before_append R [] ys h k across = k
before_append R (x ∷ xs) ys h k across = (all_append (R x) xs ys h.0 across.0, before_append R xs ys h.1 k across.1)

pub before_of_append : {A : Type 0} (R : A → A → Type 0) (xs ys : List A) → EachBefore R (xs ++ ys) → EachBefore R xs × EachBefore R ys × AllByRecursion (λ x. AllByRecursion (R x) ys) xs
before_of_append R [] ys all = (tt, all, tt)
before_of_append R (x ∷ xs) ys all =
    let parts = all_of_append (R x) xs ys all.0 in
    let more = before_of_append R xs ys all.1 in
    ((parts.0, more.0), more.1, (parts.1, more.2))

pub before_map : {A B : Type 0} (f : A → B) (R : B → B → Type 0) (xs : List A) → EachBefore (λ x y. R (f x) (f y)) xs → EachBefore R (map f xs)
before_map f R [] all = tt
before_map f R (x ∷ xs) all = (all_map f (R (f x)) xs all.0, before_map f R xs all.1)

pub before_filter : {A : Type 0} (R : A → A → Type 0) (p : A → Bool) (xs : List A) → EachBefore R xs → EachBefore R (filter p xs)
before_filter R p [] all = tt
before_filter R p (x ∷ xs) all = kept (p x) (before_filter R p xs all.1)
  where
    kept : (b : Bool) → EachBefore R (filter p xs) → EachBefore R (cond b (x ∷ filter p xs) (filter p xs))
    kept true more = (all_filter (R x) p xs all.0, more)
    kept false more = more

pub before_filter_map : {A B : Type 0} (f : A → Option B) (R : B → B → Type 0) (xs : List A)
    → EachBefore (λ x y. (a b : B) → f x ≡ Some a → f y ≡ Some b → R a b) xs → EachBefore R (filter_map f xs)
before_filter_map f R [] all = tt
before_filter_map {A = A} {B = B} f R (x ∷ xs) all = one (f x) refl (before_filter_map f R xs all.1)
  where
    one : (o : Option B) → f x ≡ o → EachBefore R (filter_map f xs) → EachBefore R (cons_option o (filter_map f xs))
    one None is more = more
    one (Some a) is more =
        (all_filter_map f (R a) xs (all_from {P = λ (y : A). (c b : B) → f x ≡ Some c → f y ≡ Some b → R c b} {Q = λ (y : A). (b : B) → f y ≡ Some b → R a b} (λ y h b e. h a b is e) xs all.0), more)

-- each of one list, and each of another
pub all_across : {A B : Type 0} {P : A → Type 0} {Q : B → Type 0} {R : A → B → Type 0} → ((a : A) (b : B) → P a → Q b → R a b)
    → (xs : List A) (ys : List B) → AllByRecursion P xs → AllByRecursion Q ys → AllByRecursion (λ a. AllByRecursion (R a) ys) xs
all_across h [] ys ps qs = tt
all_across {Q = Q} {R = R} h (x ∷ xs) ys ps qs = (all_from {P = Q} {Q = R x} (λ y q. h x y ps.0 q) ys qs, all_across h xs ys ps.1 qs)

pub before_both : {A : Type 0} (P : A → Type 0) (R : A → A → Type 0) (xs : List A) → AllByRecursion P xs → EachBefore R xs → EachBefore (λ x y. P x × P y × R x y) xs
before_both P R [] ps rs = tt
before_both {A = A} P R (x ∷ xs) ps rs = (both xs ps.1 rs.0, before_both P R xs ps.1 rs.1)
  where
    both : (ys : List A) → AllByRecursion P ys → AllByRecursion (R x) ys → AllByRecursion (λ y. P x × P y × R x y) ys
    both [] qs ss = tt
    both (y ∷ ys) qs ss = ((ps.0, qs.0, ss.0), both ys qs.1 ss.1)

-- a fact of each element that may use that it is one
pub all_by : {A : Type 0} (P : A → Type 0) (xs : List A) → ((x : A) → Contains xs x → P x) → AllByRecursion P xs
all_by P [] h = tt
all_by P (x ∷ xs) h = (h x (0, omega arith, refl), all_by P xs (λ y (k, lt, is). h y (suc k, omega (arith, lt), is)))
