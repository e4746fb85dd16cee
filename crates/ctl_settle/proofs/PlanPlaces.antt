-- The plan of a connection by its number, where plans are dropped, renewed, added and taken.
use Rattle.std.proofs.Common.{◌≡◌, ℕ, suc, ◌<◌, ◌≤◌, ◌==◌, Bool, true, false, cond, Option, Some, None, List, [], ◌∷◌, ◌++◌, map, filter, find, is_some, length, get_or, set, nat_lt, refl, inl, inr, sym, ap, ◌∙◌, arith, if◌then◌else◌}
use Rattle.std.specs.List.{position, position_or_len}
use Rattle.std.specs.Option.{option_map, option_map_or}
use Rattle.std.proofs.lemmas.Bool.{cases_Bool, eqb-true, ltb-false}
use Rattle.conf_types.specs.Configuration.{Configuration}
use Rattle.conf_types.specs.State.{State}
use Rattle.cold_start.specs.Cold.{cold_at}
use Rattle.warm_plan.specs.Kept.{Kept}
use Rattle.ctl_world.proofs.Numbered.{apart}
use Rattle.ctl_settle.specs.declared.plans.Held.{Held}
use Rattle.ctl_settle.specs.Plans.{is_for, plan_for, renewed, taken, took}

abbrev pub plan_of : Option Held → Option Kept
plan_of o = option_map (λ (h : Held). h.plan) o

-- ---- some are dropped, by their numbers

module _ (t : ℕ → Bool) where
  abbrev left : List Held → List Held
  left held = filter (λ (h : Held). t h.conn) held

  pub plan_filtered : (held : List Held) (n : ℕ) → plan_for (left held) n ≡ (if t n then plan_for held n else None)
  plan_filtered [] n = elim (t n) as (λ b. plan_of None ≡ (if b then plan_of None else plan_of None)) [ true ↦ refl | false ↦ refl ]
  plan_filtered (h ∷ hs) n =
      elim (cases_Bool (h.conn == n)) [
        | inl here ↦
            let same : t h.conn ≡ t n = ap t (eqb-true h.conn n here) in
            elim (cases_Bool (t n)) [
              | inl stays ↦
                  ap (λ b. plan_for (cond b (h ∷ left hs) (left hs)) n) (same ∙ stays) ∙ ap (λ b. plan_of (cond b (Some h) (find (is_for n) (left hs)))) here
                  ∙ sym (ap (λ b. if b then plan_for (h ∷ hs) n else None) stays ∙ ap (λ b. plan_of (cond b (Some h) (find (is_for n) hs))) here)
              | inr goes ↦
                  ap (λ b. plan_for (cond b (h ∷ left hs) (left hs)) n) (same ∙ goes) ∙ plan_filtered hs n ∙ ap (λ b. if b then plan_for hs n else None) goes
                  ∙ sym (ap (λ b. if b then plan_for (h ∷ hs) n else None) goes)
            ]
        | inr other ↦
            elim (t h.conn) as (λ b. plan_for (cond b (h ∷ left hs) (left hs)) n ≡ (if t n then plan_for (h ∷ hs) n else None)) [
              | true ↦
                  ap (λ b. plan_of (cond b (Some h) (find (is_for n) (left hs)))) other ∙ plan_filtered hs n
                  ∙ sym (ap (λ b. if t n then plan_of (cond b (Some h) (find (is_for n) hs)) else None) other)
              | false ↦ plan_filtered hs n ∙ sym (ap (λ b. if t n then plan_of (cond b (Some h) (find (is_for n) hs)) else None) other)
            ]
      ]

-- ---- they want another cold start

module _ (conf : Configuration) (state : State) where
  abbrev pub anew : Kept → Kept
  anew p = record p { conf = conf; state = state; wanted = cold_at conf state p.dp }

  pub plan_renewed : (held : List Held) (n : ℕ) → plan_for (map (renewed conf state) held) n ≡ option_map anew (plan_for held n)
  plan_renewed [] n = refl
  plan_renewed (h ∷ hs) n =
      elim (is_for n h) as (λ b. plan_of (cond b (Some (renewed conf state h)) (find (is_for n) (map (renewed conf state) hs))) ≡ option_map anew (plan_of (cond b (Some h) (find (is_for n) hs)))) [
        | true ↦ refl
        | false ↦ plan_renewed hs n
      ]

-- ---- one comes last

pub plan_pushed : (h : Held) (held : List Held) (n : ℕ) → plan_for (held ++ h ∷ []) n ≡ option_map_or (λ (p : Kept). Some p) (plan_for held n) (cond (is_for n h) (Some h.plan) None)
plan_pushed h [] n = elim (is_for n h) as (λ b. plan_of (cond b (Some h) None) ≡ cond b (Some h.plan) None) [ true ↦ refl | false ↦ refl ]
plan_pushed h (x ∷ xs) n =
    elim (is_for n x) as (λ b. plan_of (cond b (Some x) (find (is_for n) (xs ++ h ∷ []))) ≡ option_map_or (λ (p : Kept). Some p) (plan_of (cond b (Some x) (find (is_for n) xs))) (cond (is_for n h) (Some h.plan) None)) [
      | true ↦ refl
      | false ↦ plan_pushed h xs n
    ]

-- ---- one is taken

abbrev pub all_taken : Kept → Kept
all_taken p = record p { sent = p.wanted }

pub taken_own : (number : ℕ) (held : List Held) → plan_for (taken number held) number ≡ option_map all_taken (plan_for held number)
taken_own number [] = refl
taken_own number (h ∷ hs) =
    elim (cases_Bool (h.conn == number)) [
      | inl here ↦
          ap (λ b. plan_for (if b then took h ∷ hs else h ∷ taken number hs) number) here ∙ ap (λ b. plan_of (cond b (Some (took h)) (find (is_for number) hs))) here
          ∙ sym (ap (λ b. option_map all_taken (plan_of (cond b (Some h) (find (is_for number) hs)))) here)
      | inr other ↦
          ap (λ b. plan_for (if b then took h ∷ hs else h ∷ taken number hs) number) other ∙ ap (λ b. plan_of (cond b (Some h) (find (is_for number) (taken number hs)))) other
          ∙ taken_own number hs ∙ sym (ap (λ b. option_map all_taken (plan_of (cond b (Some h) (find (is_for number) hs)))) other)
    ]

pub taken_other : (number n : ℕ) → (n ≡ number → ⊥) → (held : List Held) → plan_for (taken number held) n ≡ plan_for held n
taken_other number n differs [] = refl
taken_other number n differs (h ∷ hs) =
    elim (cases_Bool (h.conn == number)) [
      | inl here ↦
          let own : h.conn ≡ number = eqb-true h.conn number here in
          let off : (h.conn == n) ≡ false = apart h.conn n (λ is. differs (sym is ∙ own)) in
          ap (λ b. plan_for (if b then took h ∷ hs else h ∷ taken number hs) n) here ∙ ap (λ b. plan_of (cond b (Some (took h)) (find (is_for n) hs))) off
          ∙ ap (λ b. plan_of (cond b (Some h) (find (is_for n) hs))) (sym off)
      | inr other ↦
          ap (λ b. plan_for (if b then took h ∷ hs else h ∷ taken number hs) n) other
          ∙ elim (is_for n h) as (λ b. plan_of (cond b (Some h) (find (is_for n) (taken number hs))) ≡ plan_of (cond b (Some h) (find (is_for n) hs))) [
            | true ↦ refl
            | false ↦ taken_other number n differs hs
          ]
    ]

pub taken_some : (number n : ℕ) (held : List Held) → is_some (plan_for (taken number held) n) ≡ is_some (plan_for held n)
taken_some number n [] = refl
taken_some number n (h ∷ hs) =
    elim (is_for number h) as (λ b. is_some (plan_for (if b then took h ∷ hs else h ∷ taken number hs) n) ≡ is_some (plan_for (h ∷ hs) n)) [
      | true ↦ elim (is_for n h) as (λ b. is_some (plan_of (cond b (Some (took h)) (find (is_for n) hs))) ≡ is_some (plan_of (cond b (Some h) (find (is_for n) hs)))) [ true ↦ refl | false ↦ refl ]
      | false ↦ elim (is_for n h) as (λ b. is_some (plan_of (cond b (Some h) (find (is_for n) (taken number hs)))) ≡ is_some (plan_of (cond b (Some h) (find (is_for n) hs)))) [
        | true ↦ refl
        | false ↦ taken_some number n hs
      ]
    ]

-- ---- at its place

module _ (number : ℕ) where
  found : (held : List Held) (i : ℕ) (d : Held) → i ≡ position_or_len (is_for number) held → i < length held → find (is_for number) held ≡ Some (get_or held i d)
  found [] i d is within = absurd (omega arith)
  found (x ∷ xs) i d is within =
      elim (cases_Bool (is_for number x)) [
        | inl here ↦ let at : i ≡ 0 = is ∙ (rw here refl) in rw (at, here) refl
        | inr other ↦ let at : i ≡ suc (position_or_len (is_for number) xs) = is ∙ (rw other (omega arith)) in
            rw (at, other) (found xs (position_or_len (is_for number) xs) d refl (omega arith))
      ]

  changed : (held : List Held) (i : ℕ) (d : Held) → i ≡ position_or_len (is_for number) held → i < length held → set held i (took (get_or held i d)) ≡ taken number held
  changed [] i d is within = absurd (omega arith)
  changed (x ∷ xs) i d is within =
      elim (cases_Bool (is_for number x)) [
        | inl here ↦ let at : i ≡ 0 = is ∙ (rw here refl) in rw (at, here) refl
        | inr other ↦ let at : i ≡ suc (position_or_len (is_for number) xs) = is ∙ (rw other (omega arith)) in
            rw (at, other) (ap (λ hs. x ∷ hs) (changed xs (position_or_len (is_for number) xs) d refl (omega arith)))
      ]

  at_place : (held : List Held) (i : ℕ) → Some i ≡ position (is_for number) held → i ≡ position_or_len (is_for number) held
  at_place held i is =
      elim (cases_Bool (nat_lt (position_or_len (is_for number) held) (length held))) [
        | inl here ↦ let e = rw here at is in cc
        | inr past ↦ let e = rw past at is in absurd (cc)
      ]

  past_all : (held : List Held) → None ≡ position (is_for number) held → length held ≤ position_or_len (is_for number) held
  past_all held is =
      elim (cases_Bool (nat_lt (position_or_len (is_for number) held) (length held))) [
        | inl here ↦ let e = rw here at is in absurd (cc)
        | inr past ↦ ltb-false (position_or_len (is_for number) held) (length held) past
      ]

  none_past : (held : List Held) → length held ≤ position_or_len (is_for number) held → plan_for held number ≡ None
  none_past [] past = refl
  none_past (x ∷ xs) past =
      elim (cases_Bool (is_for number x)) [
        | inl here ↦ let e = rw here at past in absurd (omega arith)
        | inr other ↦ let e = rw other at past in rw other (none_past xs (omega arith))
      ]

  pub none_taken : (held : List Held) → plan_for held number ≡ None → taken number held ≡ held
  none_taken [] none = refl
  none_taken (x ∷ xs) none =
      elim (cases_Bool (is_for number x)) [
        | inl here ↦ let e = rw here at none in absurd (cc)
        | inr other ↦ rw other (ap (λ hs. x ∷ hs) (none_taken xs (rw other at none)))
      ]

  -- ---- as the code finds it, by a slice of the items that are seen as the plans

  module _ (slice items held : List Held) (same : slice ≡ items) (view : items ≡ held) where
    module _ (i : ℕ) (h : Held) (is : Some i ≡ position (is_for number) slice) (within : i < length slice) (at : h ≡ get_or items i h) where
      at_i : i ≡ position_or_len (is_for number) items
      at_i = at_place items i (is ∙ ap (position (is_for number)) same)

      pub is_there : plan_for held number ≡ Some h.plan
      is_there = ap (λ hs. plan_for hs number) (sym view) ∙ ap plan_of (found items i h at_i (omega (arith, ap length same))) ∙ ap (λ (d : Held). Some d.plan) (sym at)

      pub set_there : set items i (took h) ≡ taken number held
      set_there = ap (λ d. set items i (took d)) at ∙ changed items i h at_i (omega (arith, ap length same)) ∙ ap (taken number) view

    module _ (is : None ≡ position (is_for number) slice) where
      pub none_there : plan_for held number ≡ None
      none_there = none_past held (past_all held (is ∙ ap (position (is_for number)) (same ∙ view)))

      pub none_set : held ≡ taken number held
      none_set = sym (none_taken held none_there)
