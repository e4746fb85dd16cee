use Rattle.std.proofs.Common.{◌≡◌, ℕ, zero, suc, ◌<◌, ◌≤◌, List, [], ◌∷◌, refl, sym, subst, inl, inr, ⊎_elim, arith}
use Rattle.std.specs.Prelude.{◌⊎◌, Contains}
use Rattle.std.proofs.lemmas.Bool.{cases_lt}

-- a fact that is known to hold or not to hold
abbrev pub IsKnown : Type 0 → Type 0
IsKnown P = P ⊎ (P → ⊥)

pub contains_here : {X : Type 0} (x : X) (xs : List X) → Contains (x ∷ xs) x
contains_here x xs = (zero, omega arith, refl)

pub contains_there : {X : Type 0} (x y : X) (xs : List X) → Contains xs y → Contains (x ∷ xs) y
contains_there x y xs (k, low, is) = (suc k, omega (arith, low), is)

pub contains_cons : {X : Type 0} (x y : X) (xs : List X) → Contains (x ∷ xs) y → (x ≡ y) ⊎ Contains xs y
contains_cons x y xs (zero, low, is) = inl is
contains_cons x y xs (suc k, low, is) = inr (k, omega (arith, low), is)

-- whether some item of a list has a property that is known of each
pub known_any : {X : Type 0} (P : X → Type 0) → ((x : X) → IsKnown (P x)) → (xs : List X) → IsKnown ((x : X) × Contains xs x × P x)
known_any P known [] = inr (λ (x, c, p). omega (arith, c.1))
known_any P known (x ∷ xs) = ⊎_elim
    (λ (p : P x). inl (x, contains_here x xs, p))
    (λ not_x. ⊎_elim
    (λ rest. inl (rest.0, contains_there x rest.0 xs rest.1, rest.2))
    (λ not_rest. inr (λ (y, c, p). ⊎_elim (λ same. not_x (subst P (sym same) p)) (λ c'. not_rest (y, c', p)) (contains_cons x y xs c)))
    (known_any P known xs))
    (known x)

-- the least number with a property, if one has it
abbrev Least : (ℕ → Type 0) → Type 0
Least P = (n : ℕ) × P n × ((k : ℕ) → P k → n ≤ k)

below_or_least : (P : ℕ → Type 0) → ((n : ℕ) → IsKnown (P n)) → (m : ℕ) → ((k : ℕ) → k < m → P k → ⊥) ⊎ Least P
below_or_least P known zero = inl (λ k low p. omega (arith, low))
below_or_least P known (suc m) = ⊎_elim
    (λ none. ⊎_elim
    (λ (p : P m). inr (m, p, λ k q. ⊎_elim (λ (lt : k < m). absurd (none k lt q)) (λ (ge : m ≤ k). ge) (cases_lt k m)))
    (λ not_m. inl (λ k low p. ⊎_elim
    (λ (lt : k < m). none k lt p)
    (λ (ge : m ≤ k). let same : k ≡ m = omega (arith, ge, low) in not_m (subst P same p))
    (cases_lt k m)))
    (known m))
    (λ least. inr least)
    (below_or_least P known m)

pub least_of : (P : ℕ → Type 0) → ((n : ℕ) → IsKnown (P n)) → (m : ℕ) → P m → (n : ℕ) × P n × ((k : ℕ) → P k → n ≤ k)
least_of P known m p = ⊎_elim
    (λ none. absurd (none m (omega arith) p))
    (λ least. least)
    (below_or_least P known (suc m))

-- of the items of a list with a property the first one in a total order
pub first_of_list : {X : Type 0} (P : X → Type 0) → ((x : X) → IsKnown (P x)) → (R : X → X → Type 0) → ((x y : X) → P x → P y → R x y ⊎ R y x) → ((x y z : X) → R x y → R y z → R x z) → (xs : List X) → ((x : X) × Contains xs x × P x × ((y : X) → Contains xs y → P y → R x y)) ⊎ ((x : X) → Contains xs x → P x → ⊥)
first_of_list P known R total trans [] = inr (λ x c p. omega (arith, c.1))
first_of_list P known R total trans (x ∷ xs) = ⊎_elim
    (λ (p : P x). ⊎_elim
    (λ rest. ⊎_elim
    (λ (before : R x rest.0). inl (x, contains_here x xs, p, λ y c q. ⊎_elim (λ same. subst (R x) same (self x p)) (λ c'. trans x rest.0 y before (rest.3 y c' q)) (contains_cons x y xs c)))
    (λ (after : R rest.0 x). inl (rest.0, contains_there x rest.0 xs rest.1, rest.2, λ y c q. ⊎_elim (λ same. subst (R rest.0) same after) (λ c'. rest.3 y c' q) (contains_cons x y xs c)))
    (total x rest.0 p rest.2))
    (λ none. inl (x, contains_here x xs, p, λ y c q. ⊎_elim (λ same. subst (R x) same (self x p)) (λ c'. absurd (none y c' q)) (contains_cons x y xs c)))
    (first_of_list P known R total trans xs))
    (λ not_x. ⊎_elim
    (λ rest. inl (rest.0, contains_there x rest.0 xs rest.1, rest.2, λ y c q. ⊎_elim (λ same. absurd (not_x (subst P (sym same) q))) (λ c'. rest.3 y c' q) (contains_cons x y xs c)))
    (λ none. inr (λ y c q. ⊎_elim (λ same. not_x (subst P (sym same) q)) (λ c'. none y c' q) (contains_cons x y xs c)))
    (first_of_list P known R total trans xs))
    (known x) where
      self : (y : _) → P y → R y y
      self y q = ⊎_elim (λ r. r) (λ r. r) (total y y q q)
