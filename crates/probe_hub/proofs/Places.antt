-- The first connection of which something holds, at its place.
use Rattle.std.proofs.Common.{◌≡◌, ℕ, suc, ◌<◌, ◌≤◌, Bool, Some, None, List, [], ◌∷◌, ◌++◌, length, get_or, set, nat_lt, refl, inl, inr, sym, ap, ◌∙◌, arith}
use Rattle.std.specs.List.{find, insert, position, position_or_len}
use Rattle.std.proofs.lemmas.Bool.{cases_Bool, ltb-false}
use Rattle.probe_hub.specs.declared.conn.Conn.{Conn}
use Rattle.probe_hub.specs.declared.links.Links.{Links}
use Rattle.probe_hub.specs.Conn.{came}
use Rattle.probe_hub.specs.Conns.{came_on, change, given_on, has_number, is_above, put}

module _ (is : Conn → Bool) where
  -- what is found, and what is changed, where the place is the first one
  found : (conns : List Conn) (i : ℕ) (d : Conn) → i ≡ position_or_len is conns → i < length conns → find is conns ≡ Some (get_or conns i d)
  found [] i d at within = absurd (omega arith)
  found (x ∷ xs) i d at within =
      elim (cases_Bool (is x)) [
        | inl here ↦ let first : i ≡ 0 = at ∙ (rw here refl) in rw (first, here) refl
        | inr other ↦ let later : i ≡ suc (position_or_len is xs) = at ∙ (rw other (omega arith)) in
            rw (later, other) (found xs (position_or_len is xs) d refl (omega arith))
      ]

  changed : (f : Conn → Conn) (conns : List Conn) (i : ℕ) (d : Conn) → i ≡ position_or_len is conns → i < length conns → set conns i (f (get_or conns i d)) ≡ change is f conns
  changed f [] i d at within = absurd (omega arith)
  changed f (x ∷ xs) i d at within =
      elim (cases_Bool (is x)) [
        | inl here ↦ let first : i ≡ 0 = at ∙ (rw here refl) in rw (first, here) refl
        | inr other ↦ let later : i ≡ suc (position_or_len is xs) = at ∙ (rw other (omega arith)) in
            rw (later, other) (ap (λ cs. x ∷ cs) (changed f xs (position_or_len is xs) d refl (omega arith)))
      ]

  at_place : (conns : List Conn) (i : ℕ) → Some i ≡ position is conns → i ≡ position_or_len is conns
  at_place conns i at =
      elim (cases_Bool (nat_lt (position_or_len is conns) (length conns))) [
        | inl here ↦ let e = rw here at at in cc
        | inr past ↦ let e = rw past at at in absurd (cc)
      ]

  past_all : (conns : List Conn) → None ≡ position is conns → length conns ≤ position_or_len is conns
  past_all conns at =
      elim (cases_Bool (nat_lt (position_or_len is conns) (length conns))) [
        | inl here ↦ let e = rw here at at in absurd (cc)
        | inr past ↦ ltb-false (position_or_len is conns) (length conns) past
      ]

  none_past : (conns : List Conn) → length conns ≤ position_or_len is conns → find is conns ≡ None
  none_past [] past = refl
  none_past (x ∷ xs) past =
      elim (cases_Bool (is x)) [
        | inl here ↦ let e = rw here at past in absurd (omega arith)
        | inr other ↦ let e = rw other at past in rw other (none_past xs (omega arith))
      ]

  pub unchanged : (f : Conn → Conn) (conns : List Conn) → find is conns ≡ None → change is f conns ≡ conns
  unchanged f [] none = refl
  unchanged f (x ∷ xs) none =
      elim (cases_Bool (is x)) [
        | inl here ↦ let e = rw here at none in absurd (cc)
        | inr other ↦ rw other (ap (λ cs. x ∷ cs) (unchanged f xs (rw other at none)))
      ]

  -- ---- as the code finds it, by a slice of the items that are seen as the connections

  module _ (slice items conns : List Conn) (same : slice ≡ items) (view : items ≡ conns) where
    module _ (i : ℕ) (c : Conn) (here : Some i ≡ position is slice) (within : i < length slice) (at : c ≡ get_or items i c) where
      at_i : i ≡ position_or_len is items
      at_i = at_place items i (here ∙ ap (position is) same)

      pub is_there : find is conns ≡ Some c
      is_there = ap (find is) (sym view) ∙ found items i c at_i (omega (arith, ap length same)) ∙ ap Some (sym at)

      pub set_there : (f : Conn → Conn) → set items i (f c) ≡ change is f conns
      set_there f = ap (λ d. set items i (f d)) at ∙ changed f items i c at_i (omega (arith, ap length same)) ∙ ap (change is f) view

    module _ (none : None ≡ position is slice) where
      pub none_there : find is conns ≡ None
      none_there = none_past conns (past_all conns (none ∙ ap (position is) (same ∙ view)))

      pub none_set : (f : Conn → Conn) → conns ≡ change is f conns
      none_set f = sym (unchanged f conns none_there)

-- ---- where a connection goes

module _ (c : Conn) where
  put_first : (conns : List Conn) (i : ℕ) → i ≡ position_or_len (is_above c.number) conns → i < length conns → insert conns i c ≡ put c conns
  put_first [] i at within = absurd (omega arith)
  put_first (d ∷ ds) i at within =
      elim (cases_Bool (is_above c.number d)) [
        | inl here ↦ let first : i ≡ 0 = at ∙ (rw here refl) in rw (first, here) refl
        | inr other ↦ let later : i ≡ suc (position_or_len (is_above c.number) ds) = at ∙ (rw other (omega arith)) in
            rw (later, other) (ap (λ cs. d ∷ cs) (put_first ds (position_or_len (is_above c.number) ds) refl (omega arith)))
      ]

  put_last : (conns : List Conn) → length conns ≤ position_or_len (is_above c.number) conns → conns ++ c ∷ [] ≡ put c conns
  put_last [] past = refl
  put_last (d ∷ ds) past =
      elim (cases_Bool (is_above c.number d)) [
        | inl here ↦ let e = rw here at past in absurd (omega arith)
        | inr other ↦ let e = rw other at past in rw other (ap (λ cs. d ∷ cs) (put_last ds (omega arith)))
      ]

  pub put_there : (conns : List Conn) (i : ℕ) → Some i ≡ position (is_above c.number) conns → i < length conns → insert conns i c ≡ put c conns
  put_there conns i at within = put_first conns i (at_place (is_above c.number) conns i at) within

  pub put_behind : (conns : List Conn) → None ≡ position (is_above c.number) conns → conns ++ c ∷ [] ≡ put c conns
  put_behind conns none = put_last conns (past_all (is_above c.number) conns none)

-- two equations at once
pub both : {A B : Type 0} {a c : A} {b d : B} → a ≡ c → b ≡ d → ◌≡◌ {A = A × B} (a, b) (c, d)
both first second = λ i. (first i, second i)

-- ---- bytes that come on one

pub came_at : (links : Links) (moment number : ℕ) (piece : List ℕ) (conns : List Conn) (c : Conn) → find (has_number number) conns ≡ Some c → (new : List Conn) (d : Conn) (given : ℕ)
    → (d, given) ≡ came links moment piece c → new ≡ change (has_number number) (λ e. (came links moment piece e).0) conns → (new, given) ≡ came_on links moment number piece conns
came_at links moment number piece conns c there new d given is new_is = both new_is (ap (λ (r : Conn × ℕ). r.1) is ∙ sym (ap (given_on links moment piece) there))
