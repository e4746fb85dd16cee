-- The connection at its place.
use Rattle.std.proofs.Common.{◌≡◌, ℕ, suc, ◌<◌, ◌≤◌, Some, None, List, [], ◌∷◌, length, get_or, set, nat_lt, refl, inl, inr, sym, ap, ◌∙◌, arith}
use Rattle.std.specs.List.{insert, position, position_or_len}
use Rattle.std.proofs.lemmas.Bool.{cases_Bool, ltb-false}
use Rattle.ctl_world.specs.declared.conns.Conn.{Conn}
use Rattle.ctl_world.specs.Connections.{change, conn_with, has_number, put, upper_bound}

module _ (number : ℕ) where
  -- what is found, and what is changed, where the place is the first with the number
  found : (conns : List Conn) (i : ℕ) (d : Conn) → i ≡ position_or_len (has_number number) conns → i < length conns → conn_with conns number ≡ Some (get_or conns i d)
  found [] i d is within = absurd (omega arith)
  found (x ∷ xs) i d is within =
      elim (cases_Bool (has_number number x)) [
        | inl here ↦ let at : i ≡ 0 = is ∙ (rw here refl) in rw (at, here) refl
        | inr other ↦ let at : i ≡ suc (position_or_len (has_number number) xs) = is ∙ (rw other (omega arith)) in
            rw (at, other) (found xs (position_or_len (has_number number) xs) d refl (omega arith))
      ]

  changed : (f : Conn → Conn) (conns : List Conn) (i : ℕ) (d : Conn) → i ≡ position_or_len (has_number number) conns → i < length conns → set conns i (f (get_or conns i d)) ≡ change number f conns
  changed f [] i d is within = absurd (omega arith)
  changed f (x ∷ xs) i d is within =
      elim (cases_Bool (has_number number x)) [
        | inl here ↦ let at : i ≡ 0 = is ∙ (rw here refl) in rw (at, here) refl
        | inr other ↦ let at : i ≡ suc (position_or_len (has_number number) xs) = is ∙ (rw other (omega arith)) in
            rw (at, other) (ap (λ cs. x ∷ cs) (changed f xs (position_or_len (has_number number) xs) d refl (omega arith)))
      ]

  at_place : (conns : List Conn) (i : ℕ) → Some i ≡ position (has_number number) conns → i ≡ position_or_len (has_number number) conns
  at_place conns i is =
      elim (cases_Bool (nat_lt (position_or_len (has_number number) conns) (length conns))) [
        | inl here ↦ let e = rw here at is in cc
        | inr past ↦ let e = rw past at is in absurd (cc)
      ]

  past_all : (conns : List Conn) → None ≡ position (has_number number) conns → length conns ≤ position_or_len (has_number number) conns
  past_all conns is =
      elim (cases_Bool (nat_lt (position_or_len (has_number number) conns) (length conns))) [
        | inl here ↦ let e = rw here at is in absurd (cc)
        | inr past ↦ ltb-false (position_or_len (has_number number) conns) (length conns) past
      ]

  none_past : (conns : List Conn) → length conns ≤ position_or_len (has_number number) conns → conn_with conns number ≡ None
  none_past [] past = refl
  none_past (x ∷ xs) past =
      elim (cases_Bool (has_number number x)) [
        | inl here ↦ let e = rw here at past in absurd (omega arith)
        | inr other ↦ let e = rw other at past in rw other (none_past xs (omega arith))
      ]

  pub unchanged : (f : Conn → Conn) (conns : List Conn) → conn_with conns number ≡ None → change number f conns ≡ conns
  unchanged f [] none = refl
  unchanged f (x ∷ xs) none =
      elim (cases_Bool (has_number number x)) [
        | inl here ↦ let e = rw here at none in absurd (cc)
        | inr other ↦ rw other (ap (λ cs. x ∷ cs) (unchanged f xs (rw other at none)))
      ]

  -- ---- as the code finds it, by a slice of the items that are seen as the connections

  module _ (slice items conns : List Conn) (same : slice ≡ items) (view : items ≡ conns) where
    module _ (i : ℕ) (c : Conn) (is : Some i ≡ position (has_number number) slice) (within : i < length slice) (at : c ≡ get_or items i c) where
      at_i : i ≡ position_or_len (has_number number) items
      at_i = at_place items i (is ∙ ap (position (has_number number)) same)

      pub is_there : conn_with conns number ≡ Some c
      is_there = ap (λ cs. conn_with cs number) (sym view) ∙ found items i c at_i (omega (arith, ap length same)) ∙ ap Some (sym at)

      pub set_there : (f : Conn → Conn) → set items i (f c) ≡ change number f conns
      set_there f = ap (λ d. set items i (f d)) at ∙ changed f items i c at_i (omega (arith, ap length same)) ∙ ap (change number f) view

    module _ (is : None ≡ position (has_number number) slice) where
      pub none_there : conn_with conns number ≡ None
      none_there = none_past conns (past_all conns (is ∙ ap (position (has_number number)) (same ∙ view)))

      pub none_set : (f : Conn → Conn) → conns ≡ change number f conns
      none_set f = sym (unchanged f conns none_there)

-- ---- where a connection goes

pub put_at_bound : (c : Conn) (conns : List Conn) → insert conns (upper_bound c.number conns) c ≡ put c conns
put_at_bound c [] = refl
put_at_bound c (d ∷ ds) =
    elim (cases_Bool (nat_lt c.number d.number)) [
      | inl here ↦ rw here refl
      | inr other ↦ rw other (ap (λ cs. d ∷ cs) (put_at_bound c ds))
    ]
