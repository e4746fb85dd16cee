-- What holds of each member of a list that is joined of others.
use Rattle.std.specs.Prelude.{◌≡◌, ℕ, zero, suc, Bool, true, false, cond, List, [], ◌∷◌, ◌++◌, length, map, filter, Option, Some, None, Contains, if◌then◌else◌, option_to_list}
use Rattle.std.specs.List.{AllByRecursion, flat_map, filter_map}
use Rattle.std.specs.Option.{option_map_or}
use Rattle.std.proofs.Common.{refl, sym, ap, ◌∙◌, subst, arith, true≢false}
use Rattle.std.proofs.lemmas.List.Elements.{Contains-append_left, Contains-append_right}

pub head_of : {A : Type 0} (x : A) (xs : List A) → Contains (x ∷ xs) x
head_of x xs = (zero, omega arith, refl)

pub tail_of : {A : Type 0} (x : A) (xs : List A) (y : A) → Contains xs y → Contains (x ∷ xs) y
tail_of x xs y (k, lt, is) = (suc k, omega (arith, lt), is)

-- what holds of all holds of each, and the other way round
pub of_all : {A : Type 0} (P : A → Type 0) (xs : List A) → AllByRecursion P xs → (x : A) → Contains xs x → P x
of_all P [] all x (k, lt, is) = absurd (omega (arith, lt))
of_all P (y ∷ ys) all x (zero, lt, is) = subst P is all.0
of_all P (y ∷ ys) all x (suc k, lt, is) = of_all P ys all.1 x (k, omega (arith, lt), is)

pub all_by : {A : Type 0} (P : A → Type 0) (xs : List A) → ((x : A) → Contains xs x → P x) → AllByRecursion P xs
all_by P [] h = tt
all_by P (x ∷ xs) h = (h x (head_of x xs), all_by P xs (λ y c. h y (tail_of x xs y c)))

-- ---- of all members, by how the list is made

pub all_joined : {A : Type 0} (P : A → Type 0) (xs ys : List A) → AllByRecursion P xs → AllByRecursion P ys → AllByRecursion P (xs ++ ys)
all_joined P [] ys a b = b
all_joined P (x ∷ xs) ys a b = (a.0, all_joined P xs ys a.1 b)

pub all_mapped : {A B : Type 0} (P : B → Type 0) (f : A → B) (xs : List A) → AllByRecursion (λ x. P (f x)) xs → AllByRecursion P (map f xs)
all_mapped P f [] all = tt
all_mapped P f (x ∷ xs) all = (all.0, all_mapped P f xs all.1)

pub all_flat : {A B : Type 0} (P : B → Type 0) (f : A → List B) (xs : List A) → AllByRecursion (λ x. AllByRecursion P (f x)) xs → AllByRecursion P (flat_map f xs)
all_flat P f [] all = tt
all_flat P f (x ∷ xs) all = all_joined P (f x) (flat_map f xs) all.0 (all_flat P f xs all.1)

pub all_if : {A : Type 0} (P : A → Type 0) (b : Bool) (xs ys : List A) → (b ≡ true → AllByRecursion P xs) → (b ≡ false → AllByRecursion P ys) → AllByRecursion P (if b then xs else ys)
all_if P true xs ys a c = a refl
all_if P false xs ys a c = c refl

pub all_filtered : {A : Type 0} (P : A → Type 0) (p : A → Bool) (xs : List A) → AllByRecursion (λ x. p x ≡ true → P x) xs → AllByRecursion P (filter p xs)
all_filtered P p [] all = tt
all_filtered P p (x ∷ xs) all = kept (p x) refl (all_filtered P p xs all.1)
  where
    kept : (b : Bool) → p x ≡ b → AllByRecursion P (filter p xs) → AllByRecursion P (cond b (x ∷ filter p xs) (filter p xs))
    kept true is more = (all.0 is, more)
    kept false is more = more

pub all_of_option : {A : Type 0} (P : A → Type 0) (o : Option A) → ((x : A) → o ≡ Some x → P x) → AllByRecursion P (option_to_list o)
all_of_option P None h = tt
all_of_option P (Some x) h = (h x refl, tt)

-- ---- a member, by how the list is made

pub in_front : {A : Type 0} (xs ys : List A) (x : A) → Contains xs x → Contains (xs ++ ys) x
in_front xs ys x c = Contains-append_left xs ys x c

pub behind : {A : Type 0} (xs ys : List A) (x : A) → Contains ys x → Contains (xs ++ ys) x
behind xs ys x c = Contains-append_right xs ys x c

pub in_mapped : {A B : Type 0} (f : A → B) (xs : List A) (x : A) → Contains xs x → Contains (map f xs) (f x)
in_mapped f [] x (k, lt, is) = absurd (omega (arith, lt))
in_mapped f (y ∷ ys) x (zero, lt, is) = subst (λ z. Contains (map f (y ∷ ys)) (f z)) is (head_of (f y) (map f ys))
in_mapped f (y ∷ ys) x (suc k, lt, is) = tail_of (f y) (map f ys) (f x) (in_mapped f ys x (k, omega (arith, lt), is))

pub in_flat : {A B : Type 0} (f : A → List B) (xs : List A) (x : A) (y : B) → Contains xs x → Contains (f x) y → Contains (flat_map f xs) y
in_flat f [] x y (k, lt, is) c = absurd (omega (arith, lt))
in_flat f (z ∷ zs) x y (zero, lt, is) c = in_front (f z) (flat_map f zs) y (subst (λ w. Contains (f w) y) (sym is) c)
in_flat f (z ∷ zs) x y (suc k, lt, is) c = behind (f z) (flat_map f zs) y (in_flat f zs x y (k, omega (arith, lt), is) c)

pub in_filtered : {A : Type 0} (p : A → Bool) (xs : List A) (x : A) → Contains xs x → p x ≡ true → Contains (filter p xs) x
in_filtered p [] x (k, lt, is) passes = absurd (omega (arith, lt))
in_filtered p (y ∷ ys) x (zero, lt, is) passes =
    let here : p y ≡ true = subst (λ z. p z ≡ true) (sym is) passes in
    subst (λ z. Contains (filter p (y ∷ ys)) z) is (rw here (head_of y (filter p ys)))
in_filtered p (y ∷ ys) x (suc k, lt, is) passes = kept (p y) (in_filtered p ys x (k, omega (arith, lt), is) passes)
  where
    kept : (b : Bool) → Contains (filter p ys) x → Contains (cond b (y ∷ filter p ys) (filter p ys)) x
    kept true c = tail_of y (filter p ys) x c
    kept false c = c

pub in_then : {A : Type 0} (b : Bool) (xs ys : List A) (x : A) → b ≡ true → Contains xs x → Contains (if b then xs else ys) x
in_then true xs ys x is c = c
in_then false xs ys x is c = absurd (true≢false (sym is))

pub in_else : {A : Type 0} (b : Bool) (xs ys : List A) (x : A) → b ≡ false → Contains ys x → Contains (if b then xs else ys) x
in_else true xs ys x is c = absurd (true≢false is)
in_else false xs ys x is c = c
