-- Connections stand by number and the entries of each in key order, where one is changed, goes or comes.
use Rattle.std.proofs.Common.{◌≡◌, ℕ, ◌<◌, true, false, List, [], ◌∷◌, not, nat_lt, inl, inr, sym, subst, arith, if◌then◌else◌}
use Rattle.std.specs.List.{AllByRecursion}
use Rattle.std.proofs.lemmas.Bool.{cases_Bool}
use Rattle.std.proofs.lemmas.Bool.Decides.{nat_tests}
use Rattle.of_match.specs.FlowTables.{IsInKeyOrder}
use Rattle.host_learn.proofs.Lists.{all_map, all_part, before_part, filter_part}
use Rattle.ctl_world.specs.declared.conns.Conn.{Conn}
use Rattle.ctl_world.specs.Connections.{change, has_number, is_open, put, without}
use Rattle.ctl_settle.proofs.Batches.{AreByNumber, AreInKeyOrder, keys_kept}

abbrev pub AreOrdered : List Conn → Type 0
AreOrdered conns = AreByNumber conns × AreInKeyOrder conns

-- ---- one is changed

module _ (f : Conn → Conn) (same : (c : Conn) → (f c).number ≡ c.number) where
  above_kept : (n number : ℕ) (conns : List Conn) → AllByRecursion (λ (b : Conn). n < b.number) conns → AllByRecursion (λ (b : Conn). n < b.number) (change number f conns)
  above_kept n number [] above = tt
  above_kept n number (x ∷ xs) above =
      elim (has_number number x) as (λ b. AllByRecursion (λ (b : Conn). n < b.number) (if b then f x ∷ xs else x ∷ change number f xs)) [
        | true ↦ (omega (arith, above.0, same x), above.1)
        | false ↦ (above.0, above_kept n number xs above.1)
      ]

  below_kept : (x : Conn) (xs : List Conn) → AllByRecursion (λ (b : Conn). x.number < b.number) xs → AllByRecursion (λ (b : Conn). (f x).number < b.number) xs
  below_kept x xs above = rw (same x) above

  numbers_kept : (number : ℕ) (conns : List Conn) → AreByNumber conns → AreByNumber (change number f conns)
  numbers_kept number [] ordered = tt
  numbers_kept number (x ∷ xs) ordered =
      elim (has_number number x) as (λ b. AreByNumber (if b then f x ∷ xs else x ∷ change number f xs)) [
        | true ↦ (below_kept x xs ordered.0, ordered.1)
        | false ↦ (above_kept x.number number xs ordered.0, numbers_kept number xs ordered.1)
      ]

  pub change_ordered : ((c : Conn) → (f c).sent ≡ c.sent) → (number : ℕ) (conns : List Conn) → AreOrdered conns → AreOrdered (change number f conns)
  change_ordered sent number conns ordered =
      (numbers_kept number conns ordered.0, keys_kept f (λ c keys. subst IsInKeyOrder (sym (sent c)) keys) number conns ordered.1)

-- ---- one goes

pub without_ordered : (number : ℕ) (conns : List Conn) → AreOrdered conns → AreOrdered (without number conns)
without_ordered number conns ordered =
    let part = filter_part (λ (c : Conn). not (has_number number c)) conns in (
      before_part (λ (a b : Conn). a.number < b.number) (without number conns) conns ordered.0 part,
      all_part (λ (c : Conn). IsInKeyOrder c.sent) (without number conns) conns ordered.1 part,
    )

-- ---- one comes

put_above : (n : ℕ) (c : Conn) (conns : List Conn) → n < c.number → AllByRecursion (λ (x : Conn). n < x.number) conns → AllByRecursion (λ (x : Conn). n < x.number) (put c conns)
put_above n c [] less all = (less, tt)
put_above n c (d ∷ ds) less all =
    elim (nat_lt c.number d.number) as (λ b. AllByRecursion (λ (x : Conn). n < x.number) (if b then c ∷ d ∷ ds else d ∷ put c ds)) [
      | true ↦ (less, all)
      | false ↦ (all.0, put_above n c ds less all.1)
    ]

put_numbers : (c : Conn) (conns : List Conn) → is_open conns c.number ≡ false → AreByNumber conns → AreByNumber (put c conns)
put_numbers c [] shut ordered = (tt, tt)
put_numbers c (d ∷ ds) shut ordered =
    elim (cases_Bool (nat_lt c.number d.number)) [
      | inl here ↦
          let less : c.number < d.number = grind (arith, nat_tests) in
          let all = all_map (λ (x : Conn). d.number < x.number) (λ (x : Conn). c.number < x.number) (λ x above. omega (arith, above, less)) ds ordered.0 in
          rw here ((less, all), ordered)
      | inr other ↦ elim (cases_Bool (has_number c.number d)) [
        | inl it ↦ let e = rw it at shut in absurd (cc)
        | inr apart ↦
            let less : d.number < c.number = grind (arith, nat_tests) in
            rw other (put_above d.number c ds less ordered.0, put_numbers c ds (rw apart at shut) ordered.1)
      ]
    ]

put_keys : (c : Conn) (conns : List Conn) → IsInKeyOrder c.sent → AreInKeyOrder conns → AreInKeyOrder (put c conns)
put_keys c [] keys all = (keys, tt)
put_keys c (d ∷ ds) keys all =
    elim (nat_lt c.number d.number) as (λ b. AreInKeyOrder (if b then c ∷ d ∷ ds else d ∷ put c ds)) [
      | true ↦ (keys, all)
      | false ↦ (all.0, put_keys c ds keys all.1)
    ]

pub put_ordered : (c : Conn) (conns : List Conn) → is_open conns c.number ≡ false → IsInKeyOrder c.sent → AreOrdered conns → AreOrdered (put c conns)
put_ordered c conns shut keys ordered = (put_numbers c conns shut ordered.0, put_keys c conns keys ordered.1)
