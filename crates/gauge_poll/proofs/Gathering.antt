-- What is told of watchers, one by one: what is written of each, and what waits then.
use Rattle.std.proofs.Common.{◌≡◌, ℕ, suc, ◌+◌, ◌<◌, ◌≤◌, ◌==◌, ◌&&◌, ◌++◌, nat_lt, Bool, true, false, Option, Some, None, List, append_assoc, length, drop, get_or, slice_get, inl, inr, refl, sym, ap, subst, ◌∙◌, arith, true≢false, eq-eqb, if◌then◌else◌}
use Rattle.std.specs.Option.{option_map_or}
use Rattle.std.proofs.lemmas.Bool.{cases_Bool, eqb-true, le-ltb, lt-ltb, ltb-false, ltb-true}
use Rattle.std.proofs.lemmas.Option.{slice_get_past}
use Rattle.std.proofs.lemmas.List.{drop_all}
use Rattle.conf_types.specs.declared.datapath.Dp.{Dp}
use Rattle.gauge_conf.specs.declared.gauge.Watcher.{Watcher}
use Rattle.gauge_poll.specs.declared.parts.Waiting.{Waiting}
use Rattle.gauge_poll.specs.declared.telling.Telling.{Telling}
use Rattle.gauge_poll.specs.Lines.{blocks_for, is_counted, lines_for, told_lines, told_waits, waiting_for}
use Rattle.gauge_poll.specs.Polls.{Said, Waits, no_part, with_at}
use Rattle.gauge_poll.proofs.Columns.{none_behind}
use Rattle.gauge_poll.proofs.Keeping.{item_left}

-- ---- what waits at one place

-- what was taken out is put in again, with more
pub over : (conn place : ℕ) (waits left : Waits) (made more : Waiting) → ((c p : ℕ) → left c p ≡ with_at conn place no_part waits c p) → made ≡ more → (c p : ℕ)
    → with_at conn place made left c p ≡ with_at conn place more waits c p
over conn place waits left made more taken same c p =
    elim (cases_Bool ((conn == c) && (place == p))) [
      | inl own ↦
          ap (λ b. if b then made else left c p) own ∙ same ∙ sym (ap (λ b. if b then more else waits c p) own)
      | inr other ↦
          ap (λ b. if b then made else left c p) other
          ∙ taken c p
          ∙ ap (λ b. if b then no_part else waits c p) other
          ∙ sym (ap (λ b. if b then more else waits c p) other)
    ]

-- it stays
pub stays : (conn place : ℕ) (waits : Waits) (same : Waiting) → same ≡ waits conn place → (c p : ℕ) → waits c p ≡ with_at conn place same waits c p
stays conn place waits same is c p =
    elim (cases_Bool (conn == c)) [
      | inl own ↦
          elim (cases_Bool (place == p)) [
            | inl here ↦
                sym (ap (λ b. if b && (place == p) then same else waits c p) own ∙ ap (λ b. if b then same else waits c p) here ∙ is
                ∙ ap (λ n. waits n place) (eqb-true conn c own) ∙ ap (λ n. waits c n) (eqb-true place p here))
            | inr off ↦ sym (ap (λ b. if b && (place == p) then same else waits c p) own ∙ ap (λ b. if b then same else waits c p) off)
          ]
      | inr apart ↦ sym (ap (λ b. if b && (place == p) then same else waits c p) apart)
    ]

-- ---- watcher by watcher

module _ (ws : List Watcher) (s : Said) (conn : ℕ) (told : Telling) (xid : ℕ) where
  -- what waits, once those before a place were gone through
  abbrev pub so_far : Waits → (i : ℕ) → Waits
  so_far old i c p = if nat_lt p i then told_waits ws (record s { waits = old }) conn told xid c p else old c p

  pub at_first : (old : Waits) (c p : ℕ) → old c p ≡ so_far old 0 c p
  at_first old c p = let off : nat_lt p 0 ≡ false = le-ltb p 0 (omega arith) in sym (ap (λ b. if b then told_waits ws (record s { waits = old }) conn told xid c p else old c p) off)

  pub at_place : (old : Waits) (i c : ℕ) → so_far old i c i ≡ old c i
  at_place old i c = let off : nat_lt i i ≡ false = le-ltb i i (omega arith) in ap (λ b. if b then told_waits ws (record s { waits = old }) conn told xid c i else old c i) off

  module _ (old new left : Waits) (i : ℕ) (w : Watcher) (counted : Bool) (at : slice_get ws i ≡ Some w) (was : counted ≡ is_counted conn i told xid s.polls)
      (so : (c p : ℕ) → left c p ≡ so_far old i c p) (put : (c p : ℕ) → new c p ≡ with_at conn i (waiting_for w counted told (left conn i)) left c p) where
    -- at the place itself
    own_place : (c : ℕ) → new c i ≡ told_waits ws (record s { waits = old }) conn told xid c i
    own_place c =
        elim (cases_Bool (conn == c)) [
          | inl own ↦
              let same : conn ≡ c = eqb-true conn c own in
              put c i
              ∙ ap (λ b. if b && (i == i) then waiting_for w counted told (left conn i) else left c i) own
              ∙ ap (λ b. if b then waiting_for w counted told (left conn i) else left c i) (eq-eqb i i refl)
              ∙ ap (λ x. waiting_for w counted told x) (so conn i ∙ at_place old i conn)
              ∙ ap (λ b. waiting_for w b told (old conn i)) was
              ∙ ap (λ n. waiting_for w (is_counted n i told xid s.polls) told (old n i)) same
              ∙ sym (ap (λ (o : Option Watcher). option_map_or (λ (v : Watcher). waiting_for v (is_counted c i told xid s.polls) told (old c i)) o (old c i)) at)
              ∙ sym (ap (λ b. if b then option_map_or (λ (v : Watcher). waiting_for v (is_counted c i told xid s.polls) told (old c i)) (slice_get ws i) (old c i) else old c i) own)
          | inr apart ↦
              put c i
              ∙ ap (λ b. if b && (i == i) then waiting_for w counted told (left conn i) else left c i) apart
              ∙ so c i ∙ at_place old i c
              ∙ sym (ap (λ b. if b then option_map_or (λ (v : Watcher). waiting_for v (is_counted c i told xid s.polls) told (old c i)) (slice_get ws i) (old c i) else old c i) apart)
        ]

    -- at another one
    not_put : (c p : ℕ) → (i == p) ≡ false → with_at conn i (waiting_for w counted told (left conn i)) left c p ≡ left c p
    not_put c p off =
        elim (cases_Bool (conn == c)) [
          | inl own ↦
              ap (λ b. if b && (i == p) then waiting_for w counted told (left conn i) else left c p) own
              ∙ ap (λ b. if b then waiting_for w counted told (left conn i) else left c p) off
          | inr apart ↦ ap (λ b. if b && (i == p) then waiting_for w counted told (left conn i) else left c p) apart
        ]

    other_place : (c p : ℕ) → (i == p) ≡ false → new c p ≡ so_far old i c p
    other_place c p off = put c p ∙ not_put c p off ∙ so c p

    next_same : (p : ℕ) → (i ≡ p → ⊥) → nat_lt p i ≡ nat_lt p (i + 1)
    next_same p apart =
        elim (cases_Bool (nat_lt p i)) [
          | inl before ↦ let less = ltb-true p i before in before ∙ sym (lt-ltb p (i + 1) (omega (arith, less)))
          | inr behind ↦ let least = ltb-false p i behind in let beyond : i + 1 ≤ p = omega (arith, least, apart) in behind ∙ sym (le-ltb p (i + 1) beyond)
        ]

    pub one_more : (c p : ℕ) → new c p ≡ so_far old (i + 1) c p
    one_more c p =
        elim (cases_Bool (i == p)) [
          | inl here ↦
              let same : i ≡ p = eqb-true i p here in
              let within : nat_lt i (i + 1) ≡ true = lt-ltb i (i + 1) (omega arith) in
              subst (λ n. new c n ≡ so_far old (i + 1) c n) same
              (own_place c ∙ sym (ap (λ b. if b then told_waits ws (record s { waits = old }) conn told xid c i else old c i) within))
          | inr off ↦
              let apart : i ≡ p → ⊥ = λ same. true≢false (sym (eq-eqb i p same) ∙ off) in
              let same = next_same p apart in
              other_place c p off ∙ ap (λ b. if b then told_waits ws (record s { waits = old }) conn told xid c p else old c p) same
        ]

  pub at_end : (old : Waits) (i : ℕ) → length ws ≤ i → (c p : ℕ) → so_far old i c p ≡ told_waits ws (record s { waits = old }) conn told xid c p
  at_end old i past c p =
      elim (cases_Bool (nat_lt p i)) [
        | inl within ↦ ap (λ b. if b then told_waits ws (record s { waits = old }) conn told xid c p else old c p) within
        | inr behind ↦
            let least = ltb-false p i behind in
            ap (λ b. if b then told_waits ws (record s { waits = old }) conn told xid c p else old c p) behind
            ∙ none_told (slice_get_past ws p (omega (arith, least, past)))
      ]
    where
      none_told : slice_get ws p ≡ None → old c p ≡ told_waits ws (record s { waits = old }) conn told xid c p
      none_told none =
          elim (cases_Bool (conn == c)) [
            | inl own ↦
                sym (ap (λ b. if b then option_map_or (λ (v : Watcher). waiting_for v (is_counted c p told xid s.polls) told (old c p)) (slice_get ws p) (old c p) else old c p) own
                ∙ ap (λ (o : Option Watcher). option_map_or (λ (v : Watcher). waiting_for v (is_counted c p told xid s.polls) told (old c p)) o (old c p)) none)
            | inr apart ↦
                sym (ap (λ b. if b then option_map_or (λ (v : Watcher). waiting_for v (is_counted c p told xid s.polls) told (old c p)) (slice_get ws p) (old c p) else old c p) apart)
          ]

  -- the lines and blocks
  module _ (d : Dp) where
    pub told_more : (all lines put new : List (List ℕ)) (i : ℕ) (w : Watcher) (counted : Bool) (waiting : Waiting) → i < length ws → w ≡ get_or ws i w → counted ≡ is_counted conn i told xid s.polls
        → waiting ≡ s.waits conn i → lines ++ told_lines i (drop i ws) s conn told xid d ≡ all → put ≡ lines ++ lines_for w counted s.world.moment told d
        → new ≡ put ++ blocks_for w counted told waiting d → new ++ told_lines (i + 1) (drop (i + 1) ws) s conn told xid d ≡ all
    told_more all lines put new i w counted waiting within is was waits so_far_is lined blocked =
        let next : i + 1 ≡ suc i = omega arith in
        let rest = told_lines (i + 1) (drop (i + 1) ws) s conn told xid d in
        let first = lines_for w counted s.world.moment told d in
        let second = blocks_for w counted told waiting d in
        ap (λ ls. ls ++ rest) (blocked ∙ ap (λ ls. ls ++ second) lined)
        ∙ append_assoc (lines ++ first) second rest
        ∙ append_assoc lines first (second ++ rest)
        ∙ ap (λ b. lines ++ (lines_for w b s.world.moment told d ++ (blocks_for w b told waiting d ++ rest))) was
        ∙ ap (λ x. lines ++ (lines_for w (is_counted conn i told xid s.polls) s.world.moment told d ++ (blocks_for w (is_counted conn i told xid s.polls) told x d ++ rest))) waits
        ∙ ap (λ n. lines ++ (lines_for w (is_counted conn i told xid s.polls) s.world.moment told d
        ++ (blocks_for w (is_counted conn i told xid s.polls) told (s.waits conn i) d ++ told_lines n (drop (i + 1) ws) s conn told xid d))) next
        ∙ ap (λ more. lines ++ told_lines i more s conn told xid d) (sym (item_left ws i w within is))
        ∙ so_far_is

    pub told_end : (all lines : List (List ℕ)) (i : ℕ) → length ws ≤ i → lines ++ told_lines i (drop i ws) s conn told xid d ≡ all → lines ≡ all
    told_end all lines i past so_far_is = sym (none_behind lines) ∙ ap (λ more. lines ++ told_lines i more s conn told xid d) (sym (drop_all i ws past)) ∙ so_far_is
