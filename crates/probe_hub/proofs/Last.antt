-- The last probe of a port, at its place.
use Rattle.std.proofs.Common.{◌≡◌, ℕ, suc, ◌<◌, ◌≤◌, Bool, Some, None, List, [], ◌∷◌, ◌++◌, length, set, nat_lt, refl, inl, inr, ap, ◌∙◌, arith}
use Rattle.std.specs.List.{position, position_or_len}
use Rattle.std.proofs.lemmas.Bool.{cases_Bool, ltb-false}
use Rattle.probe_hub.specs.declared.links.LinkEnd.{LinkEnd}
use Rattle.probe_hub.specs.declared.probing.LastProbe.{LastProbe}
use Rattle.probe_hub.specs.Probing.{is_last_of, said_again}

module _ (moment : ℕ) (end : LinkEnd) where
  abbrev Is : LastProbe → Bool
  Is = is_last_of end.dp end.port

  abbrev one : LastProbe
  one = record { dp = end.dp; port = end.port; moment = moment }

  set_first : (lasts : List LastProbe) (i : ℕ) → i ≡ position_or_len Is lasts → i < length lasts → set lasts i one ≡ said_again moment end lasts
  set_first [] i at within = absurd (omega arith)
  set_first (x ∷ xs) i at within =
      elim (cases_Bool (Is x)) [
        | inl here ↦ let first : i ≡ 0 = at ∙ (rw here refl) in rw (first, here) refl
        | inr other ↦ let later : i ≡ suc (position_or_len Is xs) = at ∙ (rw other (omega arith)) in
            rw (later, other) (ap (λ ls. x ∷ ls) (set_first xs (position_or_len Is xs) refl (omega arith)))
      ]

  push_last : (lasts : List LastProbe) → length lasts ≤ position_or_len Is lasts → lasts ++ one ∷ [] ≡ said_again moment end lasts
  push_last [] past = refl
  push_last (x ∷ xs) past =
      elim (cases_Bool (Is x)) [
        | inl here ↦ let e = rw here at past in absurd (omega arith)
        | inr other ↦ let e = rw other at past in rw other (ap (λ ls. x ∷ ls) (push_last xs (omega arith)))
      ]

  at_place : (lasts : List LastProbe) (i : ℕ) → Some i ≡ position Is lasts → i ≡ position_or_len Is lasts
  at_place lasts i at =
      elim (cases_Bool (nat_lt (position_or_len Is lasts) (length lasts))) [
        | inl here ↦ let e = rw here at at in cc
        | inr past ↦ let e = rw past at at in absurd (cc)
      ]

  past_all : (lasts : List LastProbe) → None ≡ position Is lasts → length lasts ≤ position_or_len Is lasts
  past_all lasts at =
      elim (cases_Bool (nat_lt (position_or_len Is lasts) (length lasts))) [
        | inl here ↦ let e = rw here at at in absurd (cc)
        | inr past ↦ ltb-false (position_or_len Is lasts) (length lasts) past
      ]

  pub set_again : (lasts : List LastProbe) (i : ℕ) → Some i ≡ position Is lasts → i < length lasts → set lasts i one ≡ said_again moment end lasts
  set_again lasts i at within = set_first lasts i (at_place lasts i at) within

  pub push_again : (lasts : List LastProbe) → None ≡ position Is lasts → lasts ++ one ∷ [] ≡ said_again moment end lasts
  push_again lasts none = push_last lasts (past_all lasts none)
