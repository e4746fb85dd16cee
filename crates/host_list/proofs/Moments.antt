-- Another moment of a host leaves what doesn't ask for it.
use Rattle.std.proofs.Common.{◌≡◌, ℕ, Bool, true, false, cond, List, [], ◌∷◌, count_by, refl, ap, arith, if◌then◌else◌}
use Rattle.std.specs.List.{AllByRecursion}
use Rattle.std.proofs.lemmas.List.Sums.{sum_by-cons}
use Rattle.net_base.specs.declared.numbers.Moment.{Moment}
use Rattle.conf_types.specs.declared.state.HostRec.{HostRec}
use Rattle.conf_types.specs.Lists.{EachBefore}
use Rattle.host_list.specs.Hosts.{is_in_place, refreshed}
use Rattle.host_list.proofs.Lists.{all_map}

abbrev at : Moment → HostRec → HostRec
at m host = record host { learned = m }

module _ (heard : HostRec) where
  pub refreshed_all : (P : HostRec → Type 0) → ((h : HostRec) (m : Moment) → P h → P (at m h)) → (hosts : List HostRec) → AllByRecursion P hosts → AllByRecursion P (refreshed heard hosts)
  refreshed_all P still [] all = tt
  refreshed_all P still (h ∷ hosts) all = (
    elim (is_in_place heard h) as (λ b. P (if b then at heard.learned h else h)) [ true ↦ still h heard.learned all.0 | false ↦ all.0 ],
    refreshed_all P still hosts all.1,
  )

  pub refreshed_before : (R : HostRec → HostRec → Type 0) → ((a b : HostRec) (m : Moment) → R a b → R (at m a) b) → ((a b : HostRec) (m : Moment) → R a b → R a (at m b)) → (hosts : List HostRec)
      → EachBefore R hosts → EachBefore R (refreshed heard hosts)
  refreshed_before R first second [] before = tt
  refreshed_before R first second (h ∷ hosts) before =
      let others : AllByRecursion (R h) (refreshed heard hosts) = refreshed_all (R h) (second h) hosts before.0 in (
        elim (is_in_place heard h) as (λ b. AllByRecursion (R (if b then at heard.learned h else h)) (refreshed heard hosts)) [
          | true ↦ all_map (R h) (R (at heard.learned h)) (λ b. first h b heard.learned) (refreshed heard hosts) others
          | false ↦ others
        ],
        refreshed_before R first second hosts before.1,
      )

  pub refreshed_count : (test : HostRec → Bool) → ((h : HostRec) (m : Moment) → test (at m h) ≡ test h) → (hosts : List HostRec) → count_by test (refreshed heard hosts) ≡ count_by test hosts
  refreshed_count test same [] = refl
  refreshed_count test same (h ∷ hosts) =
      let one : ◌≡◌ {A = ℕ} (cond (test (if is_in_place heard h then at heard.learned h else h)) 1 0) (cond (test h) 1 0) =
      elim (is_in_place heard h) as (λ b. ◌≡◌ {A = ℕ} (cond (test (if b then at heard.learned h else h)) 1 0) (cond (test h) 1 0)) [ true ↦ ap (λ b. cond b 1 0) (same h heard.learned) | false ↦ refl ] in
      omega (arith, one, refreshed_count test same hosts, sum_by-cons (λ g. cond (test g) 1 0) h hosts, sum_by-cons (λ g. cond (test g) 1 0) (if is_in_place heard h then at heard.learned h else h) (refreshed heard hosts))
