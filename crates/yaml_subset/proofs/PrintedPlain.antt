-- A plain scalar of the bytes that are printed ends where it was printed.
use Rattle.std.proofs.Common.{◌≡◌, ℕ, ◌-◌, ◌==◌, nat_lt, Bool, true, false, ◌&&◌, List, [], ◌∷◌, ◌++◌, length, take, None, Ok, refl, sym, ◌∙◌, ap, arith, ne_eqb, eqb-true, length-append, true≢false}
use Rattle.std.specs.List.{list_all}
use Rattle.std.proofs.lemmas.Bool.{and_parts}
use Rattle.std.proofs.lemmas.Bool.Decides.{nat_tests}
use Rattle.yaml_subset.specs.declared.scalars.Scanned.{Scanned}
use Rattle.yaml_subset.specs.Characters.{at_gap}
use Rattle.yaml_subset.specs.Plain.{plain_fault, plain_from}
use Rattle.yaml_subset.specs.Scalars.{plain_scalar, scan}
use Rattle.yaml_subset.specs.Printed.{is_plain_byte}

-- what follows a scalar where it is printed: nothing, or the colon of a key
abbrev pub ends_scalar : List ℕ → Bool
ends_scalar [] = true
ends_scalar (c ∷ cs) = c == 58 && at_gap cs

-- a byte that passes a test is none that fails it
pub told_apart : (test : ℕ → Bool) (c k : ℕ) → test c ≡ true → test k ≡ false → (c == k) ≡ false
told_apart test c k h n = ne_eqb c k (λ p. true≢false (sym h ∙ ap test p ∙ n))

not_at : (c k : ℕ) → is_plain_byte c ≡ true → is_plain_byte k ≡ false → (c == k) ≡ false
not_at c k h n = told_apart is_plain_byte c k h n

plain_no_control : (c : ℕ) → is_plain_byte c ≡ true → nat_lt c 32 ≡ false
plain_no_control c h = grind (arith, nat_tests)

pub plain_read : (text after : List ℕ) → list_all is_plain_byte text ≡ true → ends_scalar after ≡ true
    → plain_from false (text ++ after) (text ++ after) ≡ Ok (after, after)
unfolding plain_from
plain_read [] [] h e = refl
plain_read [] (c ∷ cs) h e =
    let parts = and_parts (c == 58) (at_gap cs) e in
    let p : c ≡ 58 = eqb-true c 58 parts.0 in
    rw (p, parts.1) refl
plain_read (c ∷ cs) after h e =
    let parts = and_parts (is_plain_byte c) (list_all is_plain_byte cs) h in
    let t = parts.0 in
    rw (not_at c 32 t refl, not_at c 58 t refl, not_at c 9 t refl, plain_no_control c t, not_at c 127 t refl) (plain_read cs after parts.1 e)

take_text : (xs ys : List ℕ) → take (length xs) (xs ++ ys) ≡ xs
take_text [] ys = refl
take_text (x ∷ xs) ys = ap (λ l. x ∷ l) (take_text xs ys)

front_of : (xs ys : List ℕ) → take (length (xs ++ ys) - length ys) (xs ++ ys) ≡ xs
front_of xs ys =
    let n : length (xs ++ ys) - length ys ≡ length xs = omega (arith, length-append xs ys) in
    rw n (take_text xs ys)

abbrev pub plainly : List ℕ → Scanned
plainly text = record { plain = true; text = text }

pub scan_plain : (c : ℕ) (cs after : List ℕ) → list_all is_plain_byte (c ∷ cs) ≡ true → plain_fault false (c ∷ (cs ++ after)) ≡ None → ends_scalar after ≡ true
    → scan false (c ∷ (cs ++ after)) ≡ Ok (plainly (c ∷ cs), after)
unfolding scan plain_scalar
scan_plain c cs after h f e =
    let parts = and_parts (is_plain_byte c) (list_all is_plain_byte cs) h in
    let t = parts.0 in
    let g : plain_from false (c ∷ (cs ++ after)) (c ∷ (cs ++ after)) ≡ Ok (after, after) = plain_read (c ∷ cs) after h e in
    rw (not_at c 34 t refl, not_at c 39 t refl, f, g) (ap (λ (l : List ℕ). Ok (plainly l, after)) (front_of (c ∷ cs) after))

-- a plain byte other than a hyphen begins a plain scalar
pub no_fault : (c : ℕ) (cs : List ℕ) → is_plain_byte c ≡ true → (c == 45) ≡ false → plain_fault false (c ∷ cs) ≡ None
no_fault c cs t m =
    simp (
      not_at c 38 t refl,
      not_at c 42 t refl,
      not_at c 33 t refl,
      not_at c 124 t refl,
      not_at c 62 t refl,
      not_at c 63 t refl,
      not_at c 9 t refl,
      plain_no_control c t,
      not_at c 127 t refl,
      not_at c 44 t refl,
      not_at c 91 t refl,
      not_at c 93 t refl,
      not_at c 123 t refl,
      not_at c 125 t refl,
      not_at c 35 t refl,
      not_at c 39 t refl,
      not_at c 34 t refl,
      not_at c 37 t refl,
      not_at c 64 t refl,
      not_at c 96 t refl,
      m,
      not_at c 58 t refl,
    )

pub no_fault_minus : (cs : List ℕ) → at_gap cs ≡ false → plain_fault false (45 ∷ cs) ≡ None
no_fault_minus cs h = rw h refl
