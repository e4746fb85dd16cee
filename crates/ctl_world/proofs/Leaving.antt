-- Taking out all like the first that isn't kept, until each is kept.
use Rattle.std.proofs.Common.{◌≡◌, ℕ, ◌<◌, ◌≤◌, ◌==◌, ◌&&◌, Bool, true, false, cond, not, Option, Some, None, List, [], ◌∷◌, filter, find, length, inl, inr, refl, sym, ap, ◌∙◌, arith, eq-eqb, true≢false}
use Rattle.std.proofs.lemmas.Bool.{and_parts, cases_Bool, eqb-true}
use Rattle.std.proofs.lemmas.List.Sums.{count_by-le-length, length-filter}
use Rattle.conf_types.specs.declared.state.HostRec.{HostRec}
use Rattle.conf_types.specs.declared.state.NeighRec.{NeighRec}
use Rattle.conf_types.specs.declared.state.UpRec.{UpRec}
use Rattle.conf_types.specs.Configuration.{Configuration}
use Rattle.conf_types.specs.Groups.{group_of}
use Rattle.conf_types.specs.Links.{is_up}
use Rattle.conf_types.specs.State.{is_host_at, is_running}
use Rattle.net_base.specs.declared.numbers.DpId.{DpId}
use Rattle.std.specs.List.{list_any}
use Rattle.ctl_world.specs.Ends.{is_reached, stands}

module _ {A : Type 0} (keep : A → Bool) where
  pub none_left : (xs : List A) → ◌≡◌ {A = Option A} None (find (λ x. not (keep x)) xs) → filter keep xs ≡ xs
  none_left [] none = refl
  none_left (x ∷ xs) none =
      elim (cases_Bool (keep x)) [
        | inl here ↦ rw here (ap (λ ys. x ∷ ys) (none_left xs (rw here at none)))
        | inr other ↦ let e = rw other at none in absurd (cc)
      ]

  not_kept : (xs : List A) (x : A) → Some x ≡ find (λ y. not (keep y)) xs → keep x ≡ false
  not_kept [] x is = absurd (cc)
  not_kept (y ∷ ys) x is =
      elim (cases_Bool (keep y)) [
        | inl here ↦ not_kept ys x (rw here at is)
        | inr other ↦ let e : Some x ≡ Some y = rw other at is in let same : x ≡ y = cc in ap keep same ∙ other
      ]

  -- those like the first that isn't kept, which is like itself
  module _ (like : A → Bool) (x : A) (itself : like x ≡ true) (same : (y : A) → like y ≡ true → keep y ≡ keep x) where
    left_of : keep x ≡ false → (xs : List A) → filter keep (filter (λ y. not (like y)) xs) ≡ filter keep xs
    left_of lost [] = refl
    left_of lost (y ∷ ys) =
        elim (cases_Bool (like y)) [
          | inl here ↦ let out : keep y ≡ false = same y here ∙ lost in rw (here, out) (left_of lost ys)
          | inr other ↦ rw other (ap (λ zs. cond (keep y) (y ∷ zs) zs) (left_of lost ys))
        ]

    pub left : (xs : List A) → Some x ≡ find (λ y. not (keep y)) xs → filter keep (filter (λ y. not (like y)) xs) ≡ filter keep xs
    left xs is = left_of (not_kept xs x is) xs

    pub fewer : (xs : List A) → Some x ≡ find (λ y. not (keep y)) xs → length (filter (λ y. not (like y)) xs) < length xs
    fewer [] is = absurd (cc)
    fewer (y ∷ ys) is =
        let no_more : length (filter (λ z. not (like z)) ys) ≤ length ys = omega (arith, length-filter (λ z. not (like z)) ys, count_by-le-length (λ z. not (like z)) ys) in
        elim (cases_Bool (like y)) [
          | inl here ↦ rw here (omega arith)
          | inr other ↦
              let kept : keep y ≡ true = elim (cases_Bool (keep y)) [
                | inl kept ↦ kept
                | inr lost ↦ let e : Some x ≡ Some y = rw lost at is in let it : x ≡ y = cc in absurd (true≢false (sym itself ∙ ap like it ∙ other))
              ] in
              let rest = fewer ys (rw kept at is) in rw other (omega arith)
        ]

-- ---- hosts at one port, and neighbours in one group

pub at_its_port : (h : HostRec) → is_host_at h.dp h.port h ≡ true
at_its_port h = rw (eq-eqb h.dp.0 h.dp.0 refl, eq-eqb h.port h.port refl) refl

pub stand_alike : (running : List DpId) (ups : List UpRec) (h g : HostRec) → is_host_at h.dp h.port g ≡ true → stands running ups g ≡ stands running ups h
stand_alike running ups h g is =
    let parts = and_parts (g.dp.0 == h.dp.0) (g.port == h.port) is in
    ap (λ (n : ℕ). is_running running (record { 0 = n }) && is_up ups (record { 0 = n }) g.port) (eqb-true g.dp.0 h.dp.0 parts.0)
    ∙ ap (λ (n : ℕ). is_running running h.dp && is_up ups h.dp n) (eqb-true g.port h.port parts.1)

pub reached_alike : (conf : Configuration) (running : List DpId) (n m : NeighRec) → (m.group.0 == n.group.0) ≡ true → is_reached conf running m ≡ is_reached conf running n
reached_alike conf running n m is = ap (λ (k : ℕ). list_any (λ dp. (group_of conf dp).0 == k) running) (eqb-true m.group.0 n.group.0 is)
