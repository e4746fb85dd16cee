-- Members of lists, and the tests that find them.
use Rattle.std.specs.Prelude.{◌≡◌, ◌⊎◌, ◌||◌, Bool, true, false, List, [], ◌∷◌, ◌++◌, map}
use Rattle.std.specs.List.{AllByRecursion, list_any}
use Rattle.std.proofs.Common.{inl, inr, refl, sym, ap, ◌∙◌, subst}
use Rattle.std.proofs.lemmas.Bool.{or_left, or_right}
use Rattle.law_keys.specs.Grammar.{IsOneOf}

pub any_in : {A : Type 0} (f : A → Bool) (xs : List A) → list_any f xs ≡ true → (x : A) × IsOneOf xs x × (f x ≡ true)
any_in f [] h = absurd cc
any_in {A = A} f (x ∷ xs) h = by (f x) refl h (any_in f xs)
  where
    by : (b : Bool) → f x ≡ b → (b || list_any f xs) ≡ true → (list_any f xs ≡ true → (y : A) × IsOneOf xs y × (f y ≡ true)) → (y : A) × IsOneOf (x ∷ xs) y × (f y ≡ true)
    by true is h more = (x, inl refl, is)
    by false is h more = let m = more h in (m.0, inr m.1, m.2)

pub in_any : {A : Type 0} (f : A → Bool) (xs : List A) (y : A) → IsOneOf xs y → f y ≡ true → list_any f xs ≡ true
in_any f [] y i is = absurd i
in_any f (x ∷ xs) y (inl e) is = or_left (f x) (list_any f xs) (ap f e ∙ is)
in_any f (x ∷ xs) y (inr i) is = or_right (f x) (list_any f xs) (in_any f xs y i is)

pub of_joined : {A : Type 0} (xs ys : List A) (y : A) → IsOneOf (xs ++ ys) y → IsOneOf xs y ⊎ IsOneOf ys y
of_joined [] ys y i = inr i
of_joined (x ∷ xs) ys y (inl e) = inl (inl e)
of_joined {A = A} (x ∷ xs) ys y (inr i) = by (of_joined xs ys y i)
  where
    by : IsOneOf xs y ⊎ IsOneOf ys y → IsOneOf (x ∷ xs) y ⊎ IsOneOf ys y
    by (inl j) = inl (inr j)
    by (inr j) = inr j

pub in_front : {A : Type 0} (xs ys : List A) (y : A) → IsOneOf xs y → IsOneOf (xs ++ ys) y
in_front [] ys y i = absurd i
in_front (x ∷ xs) ys y (inl e) = inl e
in_front (x ∷ xs) ys y (inr i) = inr (in_front xs ys y i)

pub behind : {A : Type 0} (xs ys : List A) (y : A) → IsOneOf ys y → IsOneOf (xs ++ ys) y
behind [] ys y i = i
behind (x ∷ xs) ys y i = inr (behind xs ys y i)

pub in_mapped : {A B : Type 0} (f : A → B) (xs : List A) (x : A) → IsOneOf xs x → IsOneOf (map f xs) (f x)
in_mapped f [] x i = absurd i
in_mapped f (z ∷ xs) x (inl e) = inl (ap f e)
in_mapped f (z ∷ xs) x (inr i) = inr (in_mapped f xs x i)

pub of_mapped : {A B : Type 0} (f : A → B) (xs : List A) (y : B) → IsOneOf (map f xs) y → (x : A) × IsOneOf xs x × (f x ≡ y)
of_mapped f [] y i = absurd i
of_mapped f (x ∷ xs) y (inl e) = (x, inl refl, e)
of_mapped f (x ∷ xs) y (inr i) = let m = of_mapped f xs y i in (m.0, inr m.1, m.2)

pub of_all : {A : Type 0} (P : A → Type 0) (xs : List A) → AllByRecursion P xs → (y : A) → IsOneOf xs y → P y
of_all P [] all y i = absurd i
of_all P (x ∷ xs) all y (inl e) = subst P e all.0
of_all P (x ∷ xs) all y (inr i) = of_all P xs all.1 y i

pub all_by : {A : Type 0} (P : A → Type 0) (xs : List A) → ((y : A) → IsOneOf xs y → P y) → AllByRecursion P xs
all_by P [] h = tt
all_by P (x ∷ xs) h = (h x (inl refl), all_by P xs (λ y i. h y (inr i)))

-- two lists that are made of one and are equal, member by member
pub each_same : {A B : Type 0} (f g : A → B) (xs : List A) → map f xs ≡ map g xs → (x : A) → IsOneOf xs x → f x ≡ g x
each_same f g [] e x i = absurd i
each_same f g (z ∷ xs) e x (inl is) = let first : f z ≡ g z = cc in ap f (sym is) ∙ first ∙ ap g is
each_same f g (z ∷ xs) e x (inr i) = let rest : map f xs ≡ map g xs = cc in each_same f g xs rest x i
