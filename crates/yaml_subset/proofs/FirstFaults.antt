-- What a reading tells of the faults that stand in a part, from what it tells of a part of it.
use Rattle.std.proofs.Common.{◌≡◌, ◌⊎◌, inl, inr, ℕ, ◌+◌, ◌≤◌, Bool, true, false, cond, ◌&&◌, ◌||◌, List, [], ◌∷◌, ◌++◌, Result, Ok, Err, refl, sym, subst, arith}
use Rattle.std.proofs.lemmas.Bool.{cases_lt}
use Rattle.yaml_subset.specs.declared.fault.YamlCause.{YamlCause}
use Rattle.yaml_subset.specs.Gives.{◌>>=◌}
use Rattle.yaml_subset.specs.FirstFault.{cause_number, ComesFirst, Tells}

pub tells_err : {X : Type 0} (F : ℕ → YamlCause → Type 0) (r : Result X YamlCause) (at : ℕ) (cause : YamlCause) → r ≡ Err cause → F at cause
    → ((other_at : ℕ) (other : YamlCause) → F other_at other → ComesFirst at cause other_at other) → Tells F r
tells_err {X = X} F r at cause is there least = subst (λ (q : Result X YamlCause). Tells F q) (sym is) (at, record { there = there; least = least })

pub tells_if : {X : Type 0} (F : ℕ → YamlCause → Type 0) (b : Bool) (r s : Result X YamlCause) → (b ≡ true → Tells F r) → (b ≡ false → Tells F s) → Tells F (cond b r s)
tells_if {X = X} F b r s holds fails = by_test b refl
  where
    by_test : (t : Bool) → b ≡ t → Tells {X = X} F (cond t r s)
    by_test true e = holds e
    by_test false e = fails e

-- the same faults stand
pub tells_same : {X : Type 0} (F G : ℕ → YamlCause → Type 0) (r : Result X YamlCause) → ((at : ℕ) (cause : YamlCause) → F at cause → G at cause)
    → ((at : ℕ) (cause : YamlCause) → G at cause → F at cause) → Tells G r → Tells F r
tells_same F G (Ok x) down up t = λ at cause f. t at cause (down at cause f)
tells_same F G (Err e) down up t = (t.0, record { there = up t.0 e t.1.there; least = λ at cause f. t.1.least at cause (down at cause f) })

-- the faults of a part that begins some bytes later
abbrev pub Later : ℕ → (ℕ → YamlCause → Type 0) → ℕ → YamlCause → Type 0
Later n G at cause = (inside : ℕ) × (at ≡ n + inside) × G inside cause

pub comes_later : (n p q at : ℕ) (cause other : YamlCause) → at ≡ n + q → ComesFirst p cause q other → ComesFirst (n + p) cause at other
comes_later n p q at cause other e (inl lt) = inl (omega arith)
comes_later n p q at cause other e (inr w) = inr (omega (arith, w.0), w.1)

pub tells_later : {X : Type 0} (n : ℕ) (F G : ℕ → YamlCause → Type 0) (r : Result X YamlCause) → ((at : ℕ) (cause : YamlCause) → F at cause → Later n G at cause)
    → ((at : ℕ) (cause : YamlCause) → G at cause → F (n + at) cause) → Tells G r → Tells F r
tells_later n F G (Ok x) down up t = λ at cause f. let s = down at cause f in t s.0 cause s.2
tells_later n F G (Err e) down up t = (
  n + t.0,
  record { there = up t.0 e t.1.there; least = λ at cause f. let s = down at cause f in comes_later n t.0 s.0 at e cause s.1 (t.1.least s.0 cause s.2) },
)

-- what is made of what is read changes nothing
pub tells_map : {X Y : Type 0} (F : ℕ → YamlCause → Type 0) (r : Result X YamlCause) (f : X → Y) → Tells F r → Tells F (r >>= (λ x. Ok (f x)))
tells_map F (Ok x) f t = t
tells_map F (Err e) f t = t

-- a cause at a lesser column, or at the same one
pub first_of_two : (at other_at : ℕ) (cause other : YamlCause) → at ≤ other_at → cause_number cause ≤ cause_number other → ComesFirst at cause other_at other
first_of_two at other_at cause other le number = elim (cases_lt at other_at) [ inl lt ↦ inl lt | inr ge ↦ inr (omega (arith, le, ge), number) ]

pub and_parts : (a b : Bool) → a && b ≡ true → (a ≡ true) × (b ≡ true)
and_parts true b h = (refl, h)
and_parts false b h = absurd cc

pub or_cases : (a b : Bool) → a || b ≡ true → (a ≡ true) ⊎ (b ≡ true)
or_cases true b h = inl refl
or_cases false b h = inr h

pub or_neither : (a b : Bool) → a || b ≡ false → (a ≡ false) × (b ≡ false)
or_neither true b h = absurd cc
or_neither false b h = (refl, h)

pub never : {A : Type 0} (b : Bool) → b ≡ true → b ≡ false → A
never b t f = absurd (cc)

-- two ways to cut the same bytes in two: one of the fronts begins with the other
pub overlap : (xs ys us vs : List ℕ) → xs ++ ys ≡ us ++ vs
    → ((ws : List ℕ) × (xs ≡ us ++ ws) × (vs ≡ ws ++ ys)) ⊎ ((w : ℕ) × (ws : List ℕ) × (us ≡ xs ++ w ∷ ws) × (ys ≡ w ∷ ws ++ vs))
overlap xs ys [] vs e = inl (xs, refl, sym e)
overlap [] ys (u ∷ us) vs e = inr (u, us, refl, e)
overlap (x ∷ xs) ys (u ∷ us) vs e = longer (overlap xs ys us vs (let h : xs ++ ys ≡ us ++ vs = cc in h))
  where
    first : x ≡ u
    first = cc

    longer : ((ws : List ℕ) × (xs ≡ us ++ ws) × (vs ≡ ws ++ ys)) ⊎ ((w : ℕ) × (ws : List ℕ) × (us ≡ xs ++ w ∷ ws) × (ys ≡ w ∷ ws ++ vs))
        → ((ws : List ℕ) × (x ∷ xs ≡ (u ∷ us) ++ ws) × (vs ≡ ws ++ ys)) ⊎ ((w : ℕ) × (ws : List ℕ) × (u ∷ us ≡ (x ∷ xs) ++ w ∷ ws) × (ys ≡ w ∷ ws ++ vs))
    longer (inl (ws, a, b)) = inl (ws, cc (first, a), b)
    longer (inr (w, ws, a, b)) = inr (w, ws, cc (first, a), b)
