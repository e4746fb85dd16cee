-- The ports that a switch told to be up, by their numbers.
use Rattle.std.proofs.Common.{◌≡◌, ℕ, zero, suc, ◌<◌, ◌≤◌, ◌==◌, ◌&&◌, ◌||◌, Bool, true, false, cond, not, List, [], ◌∷◌, length, get_or, map, filter, Result, Ok, Err, is_ok, MatchResult, inl, inr, refl, sym, ap, ◌∙◌, arith, eq-eqb}
use Rattle.std.specs.List.{list_any}
use Rattle.std.proofs.lemmas.Bool.{cases_lt, ne_eqb}
use Rattle.conf_types.specs.declared.datapath.Port.{Port}
use Rattle.switch_session.specs.declared.ports.PortTold.{PortTold}
use Rattle.ctl_world.specs.UpPorts.{is_up_among}
use Rattle.ctl_world.specs.World.{is_up_by}

-- ---- found by halving

any_at : (p : ℕ → Bool) (xs : List ℕ) (i : ℕ) → i < length xs → p (get_or xs i 0) ≡ true → list_any p xs ≡ true
any_at p [] i within is = absurd (omega (arith, within))
any_at p (x ∷ xs) zero within is = ap (λ b. b || list_any p xs) is
any_at p (x ∷ xs) (suc i) within is =
    elim (p x) as (λ b. (b || list_any p xs) ≡ true) [ true ↦ refl | false ↦ any_at p xs i (omega (arith, within)) is ]

none_at : (p : ℕ → Bool) (xs : List ℕ) → ((i : ℕ) → i < length xs → p (get_or xs i 0) ≡ false) → list_any p xs ≡ false
none_at p [] off = refl
none_at p (x ∷ xs) off = ap (λ b. b || list_any p xs) (off 0 (omega arith)) ∙ none_at p xs (λ i within. off (suc i) (omega (arith, within)))

pub is_among : (xs : List ℕ) (number : ℕ) (r : Result ℕ ℕ)
    → MatchResult r (λ i. (i < length xs) × (get_or xs i 0 ≡ number)) (λ i. (i ≤ length xs) × ((k : ℕ) → k < i → get_or xs k 0 < number) × ((k : ℕ) → i ≤ k → k < length xs → number < get_or xs k 0))
    → is_ok r ≡ list_any (λ n. n == number) xs
is_among xs number (Ok i) found = sym (any_at (λ n. n == number) xs i found.0 (eq-eqb (get_or xs i 0) number found.1))
is_among xs number (Err i) none =
    sym (none_at (λ n. n == number) xs (λ k within. elim (cases_lt k i) [
      | inl before ↦ ne_eqb (get_or xs k 0) number (λ same. omega (arith, same, none.1 k before))
      | inr behind ↦ ne_eqb (get_or xs k 0) number (λ same. omega (arith, same, none.2 k behind within))
    ]))

-- ---- those that were told

pub numbers_told : (number : ℕ) (told : List PortTold) → list_any (λ n. n == number) (map (λ t. t.no) (filter (λ t. t.up) told)) ≡ list_any (λ t. t.no == number && t.up) told
numbers_told number [] = refl
numbers_told number (t ∷ told) =
    let rest : Bool = list_any (λ n. n == number) (map (λ t. t.no) (filter (λ t. t.up) told)) in
    (elim (t.up) as (λ b. list_any (λ n. n == number) (map (λ t. t.no) (cond b (t ∷ filter (λ t. t.up) told) (filter (λ t. t.up) told))) ≡ ((t.no == number && b) || rest)) [
      | true ↦ elim (t.no == number) as (λ b. (b || rest) ≡ ((b && true) || rest)) [ true ↦ refl | false ↦ refl ]
      | false ↦ elim (t.no == number) as (λ b. rest ≡ ((b && false) || rest)) [ true ↦ refl | false ↦ refl ]
    ])
    ∙ ap (λ b. (t.no == number && t.up) || b) (numbers_told number told)

pub same_ups : {B : Type 0} (f : Port → B) (numbers : List ℕ) (told : List PortTold) (ports : List Port) → ((number : ℕ) → list_any (λ n. n == number) numbers ≡ list_any (λ t. t.no == number && t.up) told)
    → map f (filter (is_up_among numbers) ports) ≡ map f (filter (is_up_by told) ports)
same_ups f numbers told ports same = λ i. map f (filter (λ p. same p.no i || not p.opstatus_reconf) ports)
