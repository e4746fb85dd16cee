-- One plan for each connection at most: where plans are dropped or changed, and where one is added.
use Rattle.std.proofs.Common.{◌≡◌, ℕ, zero, suc, ◌<◌, ◌==◌, Bool, true, false, cond, None, List, [], ◌∷◌, ◌++◌, filter, length, get_or, set, inl, inr, sym, ap, subst, ◌∙◌, arith, eq-eqb, true≢false}
use Rattle.std.specs.List.{AllByRecursion}
use Rattle.std.proofs.lemmas.Bool.{cases_Bool}
use Rattle.conf_types.specs.Lists.{AreDistinct}
use Rattle.ctl_settle.specs.declared.plans.Held.{Held}
use Rattle.ctl_settle.specs.Plans.{AreApart, numbers, plan_for}

abbrev pub AreUnlike : ℕ → List ℕ → Type 0
AreUnlike n others = AllByRecursion (λ m. n ≡ m → ⊥) others

module _ (keep : Held → Bool) where
  unlike_left : (n : ℕ) (held : List Held) → AreUnlike n (numbers held) → AreUnlike n (numbers (filter keep held))
  unlike_left n [] all = tt
  unlike_left n (h ∷ hs) all = by (keep h) (unlike_left n hs all.1)
    where
      by : (b : Bool) → AreUnlike n (numbers (filter keep hs)) → AreUnlike n (numbers (cond b (h ∷ filter keep hs) (filter keep hs)))
      by true rest = (all.0, rest)
      by false rest = rest

  pub apart_left : (held : List Held) → AreApart held → AreApart (filter keep held)
  apart_left [] all = tt
  apart_left (h ∷ hs) all = by (keep h) (apart_left hs all.1)
    where
      by : (b : Bool) → AreApart (filter keep hs) → AreApart (cond b (h ∷ filter keep hs) (filter keep hs))
      by true rest = (unlike_left h.conn hs all.0, rest)
      by false rest = rest

unlike_more : (n : ℕ) (h : Held) (held : List Held) → (n ≡ h.conn → ⊥) → AreUnlike n (numbers held) → AreUnlike n (numbers (held ++ h ∷ []))
unlike_more n h [] other all = (other, tt)
unlike_more n h (x ∷ xs) other all = (all.0, unlike_more n h xs other all.1)

pub apart_more : (h : Held) (held : List Held) → plan_for held h.conn ≡ None → AreApart held → AreApart (held ++ h ∷ [])
apart_more h [] none all = (tt, tt)
apart_more h (x ∷ xs) none all =
    elim (cases_Bool (x.conn == h.conn)) [
      | inl same ↦ let e = rw same at none in absurd (cc)
      | inr other ↦
          let differs : x.conn ≡ h.conn → ⊥ = λ e. true≢false (sym (eq-eqb x.conn h.conn e) ∙ other) in
          (unlike_more x.conn h xs differs all.0, apart_more h xs (rw other at none) all.1)
    ]

pub apart_by : (xs ys : List Held) → numbers xs ≡ numbers ys → AreApart ys → AreApart xs
apart_by xs ys same apart = subst (λ (ns : List ℕ). AreDistinct ns) (sym same) apart

-- one is changed at its place
pub numbers_set : (held : List Held) (i : ℕ) (x d : Held) → x.conn ≡ (get_or held i d).conn → i < length held → numbers (set held i x) ≡ numbers held
numbers_set [] i x d is within = absurd (omega (arith, within))
numbers_set (h ∷ hs) zero x d is within = ap (λ (n : ℕ). n ∷ numbers hs) is
numbers_set (h ∷ hs) (suc i) x d is within = ap (λ (ns : List ℕ). h.conn ∷ ns) (numbers_set hs i x d is (omega (arith, within)))
