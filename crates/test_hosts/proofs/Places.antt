-- The first place at which a test passes, and what is found and left there.
use Rattle.std.proofs.Common.{◌≡◌, ℕ, suc, ◌+◌, not, ◌<◌, ◌≤◌, ◌++◌, Bool, true, false, cond, Some, None, List, [], ◌∷◌, length, get_or, drop, find, remove, slice_get, nat_lt, refl, inl, inr, sym, ap, ◌∙◌, arith, append-nil}
use Rattle.std.specs.List.{position, position_or_len}
use Rattle.std.proofs.lemmas.Bool.{cases_Bool, ltb-false}
use Rattle.std.proofs.lemmas.List.{take_all, drop_all}
use Rattle.std.proofs.lemmas.List.Folds.{find_at}
use Rattle.std.proofs.lemmas.Option.{slice_get-get_or, slice_get_past}
use Rattle.conf_types.specs.declared.state.HostRec.{HostRec}
use Rattle.host_learn.specs.Table.{without_first}

module _ (test : HostRec → Bool) where
  taken_at : (hosts : List HostRec) → without_first test hosts ≡ remove hosts (position_or_len test hosts)
  taken_at [] = refl
  taken_at (host ∷ more) =
      elim (test host) as (λ b. cond b more (host ∷ without_first test more) ≡ remove (host ∷ more) (cond (not b) (1 + position_or_len test more) 0)) [
        | true ↦ refl
        | false ↦ let next : suc (position_or_len test more) ≡ 1 + position_or_len test more = omega arith in ap (λ rest. host ∷ rest) (taken_at more) ∙ ap (remove (host ∷ more)) next
      ]

  at_place : (hosts : List HostRec) (i : ℕ) → Some i ≡ position test hosts → i ≡ position_or_len test hosts
  at_place hosts i is =
      elim (cases_Bool (nat_lt (position_or_len test hosts) (length hosts))) [
        | inl here ↦ let e = rw here at is in cc
        | inr past ↦ let e = rw past at is in absurd (cc)
      ]

  pub found : (hosts : List HostRec) (i : ℕ) (host : HostRec) → Some i ≡ position test hosts → i < length hosts → host ≡ get_or hosts i host → Some host ≡ find test hosts
  found hosts i host is within at =
      ap Some at ∙ sym (slice_get-get_or hosts i host within) ∙ ap (slice_get hosts) (at_place hosts i is) ∙ sym (find_at test hosts)

  pub left : (hosts : List HostRec) (i : ℕ) → Some i ≡ position test hosts → remove hosts i ≡ without_first test hosts
  left hosts i is = ap (remove hosts) (at_place hosts i is) ∙ sym (taken_at hosts)

  past_all : (hosts : List HostRec) → None ≡ position test hosts → length hosts ≤ position_or_len test hosts
  past_all hosts is =
      elim (cases_Bool (nat_lt (position_or_len test hosts) (length hosts))) [
        | inl here ↦ let e = rw here at is in absurd (cc)
        | inr past ↦ ltb-false (position_or_len test hosts) (length hosts) past
      ]

  pub none_found : (hosts : List HostRec) → None ≡ position test hosts → None ≡ find test hosts
  none_found hosts is = sym (find_at test hosts ∙ slice_get_past hosts (position_or_len test hosts) (past_all hosts is))

  pub none_left : (hosts : List HostRec) → None ≡ position test hosts → hosts ≡ without_first test hosts
  none_left hosts is =
      let n = position_or_len test hosts in
      let past : length hosts ≤ n = past_all hosts is in
      sym (taken_at hosts ∙ ap (λ front. front ++ drop (suc n) hosts) (take_all n hosts past) ∙ ap (λ back. hosts ++ back) (drop_all (suc n) hosts (omega arith)) ∙ append-nil hosts)
