-- A neighbour that is left alone is asked at the first settling at or behind each moment at which it is due.
use Rattle.std.proofs.Common.{◌≡◌, ℕ, zero, suc, ◌+◌, ◌<◌, ◌≤◌, ◌++◌, Bool, true, false, cond, inl, inr, Option, Some, None, List, [], ◌∷◌, find, map, nat_lt, nat_le, is_some, refl, sym, ap, ◌∙◌, arith, subst, if◌then◌else◌}
use Rattle.std.specs.List.{AllByRecursion, list_any}
use Rattle.std.proofs.lemmas.Bool.{cases_Bool}
use Rattle.std.proofs.lemmas.Bool.Decides.{nat_tests}
use Rattle.net_base.specs.declared.numbers.DpId.{DpId}
use Rattle.conf_types.specs.declared.state.NeighRec.{NeighRec}
use Rattle.conf_types.specs.Configuration.{Configuration}
use Rattle.conf_types.specs.Families.{is_same_ip}
use Rattle.conf_types.specs.Lists.{EachBefore}
use Rattle.conf_types.specs.Routing.{routes_of}
use Rattle.neighbour_resolve.specs.declared.neighbour.Due.TheVariants.{Ask, Gone}
use Rattle.neighbour_resolve.specs.Due.{asked, asked_on, is_due, is_gateway, last_wait, later, most_tries, never, next, said_of, wait_after}
use Rattle.neighbour_resolve.specs.Runs.{At, asked_at, at}
use Rattle.neighbour_resolve.specs.Table.{is_same}
use Rattle.neighbour_resolve.proofs.Alone.{here, settled, some_wait, then_is}
use Rattle.neighbour_resolve.proofs.Keys.{AreApart}
use Rattle.law_lives.specs.Tries.{IsFirstRun, RunsOver, Settling, from, given_up_at, moments_of, ten_tries, ten_waits, told_of, tried_at, with_first}

-- ---- one by itself

module _ (conf : Configuration) where
  abbrev alone : Option NeighRec → List ℕ → List At
  alone o [] = []
  alone o (moment ∷ more) = map (at moment) (here conf moment o) ++ alone (then_is conf moment o) more

  as_alone : (n : NeighRec) (before : List NeighRec) (settlings : List Settling) (after : List NeighRec) → EachBefore AreApart before → RunsOver conf n before settlings after
      → told_of n settlings ≡ alone (find (is_same n) before) (moments_of settlings)
  as_alone n before [] after apart run = refl
  as_alone n before (s ∷ more) after apart run =
      let now = settled conf s.moment n before s.said run.0 apart run.2 in
      let found : find (is_same n) run.1 ≡ then_is conf s.moment (find (is_same n) before) = run.3.same ∙ now.1 in
      let rest = as_alone n run.1 more after run.3.keys run.4 in
      ap (λ front. map (at s.moment) front ++ told_of n more) now.0
      ∙ ap (λ back. map (at s.moment) (here conf s.moment (find (is_same n) before)) ++ back) (rest ∙ ap (λ o. alone o (moments_of more)) found)

  none_left : (moments : List ℕ) → alone None moments ≡ []
  none_left [] = refl
  none_left (moment ∷ more) = none_left more

  -- before it is due nothing is said of it
  waits : (n : NeighRec) (moments : List ℕ) → alone (Some n) moments ≡ alone (Some n) (from n.due.0 moments)
  waits n [] = refl
  waits n (moment ∷ more) =
      elim (cases_Bool (nat_le n.due.0 moment)) [
        | inl come ↦ sym (ap (λ b. alone (Some n) (if b then moment ∷ more else from n.due.0 more)) come)
        | inr early ↦
            let off : is_due moment n ≡ false = grind (arith, nat_tests) in
            ap (λ b. map (at moment) (if b then said_of conf moment n ∷ [] else []) ++ alone (if b then next conf moment n else Some n) more) off
            ∙ waits n more
            ∙ sym (ap (λ b. alone (Some n) (if b then moment ∷ more else from n.due.0 more)) early)
      ]

-- the first of what is left has come, and all of it was there
from_first : (P : ℕ → Type 0) (due : ℕ) (moments : List ℕ) → AllByRecursion P moments → (moment : ℕ) (more : List ℕ) → from due moments ≡ moment ∷ more
    → (due ≤ moment) × P moment × AllByRecursion P more
from_first P due [] all moment more is = absurd (cc)
from_first P due (m ∷ ms) all moment more is =
    elim (cases_Bool (nat_le due m)) [
      | inl come ↦
          let e : m ∷ ms ≡ moment ∷ more = sym (ap (λ b. if b then m ∷ ms else from due ms) come) ∙ is in
          let head : m ≡ moment = cc in
          let tail : ms ≡ more = cc in
          let at_most : due ≤ m = grind (arith, nat_tests) in
          (subst (λ k. due ≤ k) head at_most, subst P head all.0, subst (AllByRecursion P) tail all.1)
      | inr early ↦ from_first P due ms all.1 moment more (sym (ap (λ b. if b then m ∷ ms else from due ms) early) ∙ is)
    ]

abbrev IsBelow : ℕ → Type 0
IsBelow moment = moment + last_wait < never

wait_most : (tries : ℕ) → wait_after tries ≤ last_wait
wait_most zero = omega arith
wait_most (suc zero) = omega arith
wait_most (suc (suc zero)) = omega arith
wait_most (suc (suc (suc zero))) = omega arith
wait_most (suc (suc (suc (suc zero)))) = omega arith
wait_most (suc (suc (suc (suc (suc zero))))) = omega arith
wait_most (suc (suc (suc (suc (suc (suc tries)))))) = omega arith

-- the waits behind so many tries
abbrev waits_from : (left tries : ℕ) → List ℕ
waits_from zero tries = []
waits_from (suc left) tries = wait_after tries ∷ waits_from left (tries + 1)

module _ (conf : Configuration) (n : NeighRec) (off : is_gateway conf n ≡ false) where
  abbrev asks : List ℕ → List At
  asks moments = asked_at n moments

  abbrev goes : List ℕ → List At
  goes moments = map (λ moment. at moment (Gone n.group n.vid n.ip)) moments

  -- the same neighbour, so many tries later
  record IsLater (m : NeighRec) : Type 0 where
    group : m.group ≡ n.group
    vid : m.vid ≡ n.vid
    ip : m.ip ≡ n.ip

  same_gateway : (m : NeighRec) → IsLater m → is_gateway conf m ≡ false
  same_gateway m same = (λ i. list_any (λ route. is_same_ip route.gw (same.ip i)) (routes_of conf (same.vid i))) ∙ off

  -- ---- one try more, and the end

  comes : (m : NeighRec) (moment : ℕ) (more : List ℕ) → m.due.0 ≤ moment → m.due.0 < never
      → alone conf (Some m) (moment ∷ more) ≡ at moment (said_of conf moment m) ∷ alone conf (next conf moment m) more
  comes m moment more come below =
      let due : is_due moment m ≡ true = grind (arith, nat_tests) in
      ap (λ b. map (at moment) (if b then said_of conf moment m ∷ [] else []) ++ alone conf (if b then next conf moment m else Some m) more) due

  tries_again : (m : NeighRec) (moment : ℕ) → m.tries < most_tries → next conf moment m ≡ Some (asked moment m)
  tries_again m moment less =
      let yes : nat_lt m.tries most_tries ≡ true = grind (arith, nat_tests) in
      ap (λ b. if b then Some (asked moment m) else if is_gateway conf m then Some (asked_on moment m) else None) yes

  gives_up : (m : NeighRec) (moment : ℕ) → m.tries ≡ most_tries → IsLater m → next conf moment m ≡ None
  gives_up m moment last same =
      let no : nat_lt m.tries most_tries ≡ false = grind (arith, nat_tests) in
      ap (λ b. if b then Some (asked moment m) else if is_gateway conf m then Some (asked_on moment m) else None) no
      ∙ ap (λ b. if b then Some (asked_on moment m) else None) (same_gateway m same)

  asks_one : (m : NeighRec) (moment : ℕ) → IsLater m → at moment (Ask m.group m.vid m.ip) ≡ at moment (Ask n.group n.vid n.ip)
  asks_one m moment same i = at moment (Ask (same.group i) (same.vid i) (same.ip i))

  goes_one : (m : NeighRec) (moment : ℕ) → IsLater m → at moment (Gone m.group m.vid m.ip) ≡ at moment (Gone n.group n.vid n.ip)
  goes_one m moment same i = at moment (Gone (same.group i) (same.vid i) (same.ip i))

  -- ---- all of them

  later_is : (moment wait : ℕ) → moment + wait ≤ never → (later moment wait).0 ≡ moment + wait
  later_is moment wait below = omega arith

  course : (left : ℕ) (m : NeighRec) (moments : List ℕ) → m.tries + left ≡ most_tries → m.due.0 < never → IsLater m → AllByRecursion IsBelow moments
      → alone conf (Some m) moments ≡ asks (tried_at (waits_from left m.tries) m.due.0 moments) ++ goes (given_up_at (waits_from left m.tries) m.due.0 moments)
  course zero m moments tries below same all = waits conf m moments ∙ by (from m.due.0 moments) refl
    where
      by : (left : List ℕ) → from m.due.0 moments ≡ left → alone conf (Some m) left ≡ goes (with_first [] (λ moment more. moment ∷ []) left)
      by [] is = refl
      by (moment ∷ more) is =
          let come = from_first IsBelow m.due.0 moments all moment more is in
          let none : next conf moment m ≡ None = gives_up m moment (omega arith) same in
          comes m moment more come.0 below
          ∙ ap (λ (o : Option NeighRec). at moment (if is_some o then Ask m.group m.vid m.ip else Gone m.group m.vid m.ip) ∷ alone conf o more) none
          ∙ ap (λ (rest : List At). at moment (Gone m.group m.vid m.ip) ∷ rest) (none_left conf more)
          ∙ ap (λ (one : At). one ∷ []) (goes_one m moment same)
  course (suc left) m moments tries below same all = waits conf m moments ∙ by (course left) (from m.due.0 moments) refl
    where
      by : ((k : NeighRec) (more : List ℕ) → k.tries + left ≡ most_tries → k.due.0 < never → IsLater k → AllByRecursion IsBelow more
          → alone conf (Some k) more ≡ asks (tried_at (waits_from left k.tries) k.due.0 more) ++ goes (given_up_at (waits_from left k.tries) k.due.0 more)) → (come : List ℕ) → from m.due.0 moments ≡ come
          → alone conf (Some m) come ≡ asks (with_first [] (λ moment more. moment ∷ tried_at (waits_from left (m.tries + 1)) (moment + wait_after m.tries) more) come)
          ++ goes (with_first [] (λ moment more. given_up_at (waits_from left (m.tries + 1)) (moment + wait_after m.tries) more) come)
      by again_for [] is = refl
      by again_for (moment ∷ more) is =
          let come = from_first IsBelow m.due.0 moments all moment more is in
          let one : NeighRec = asked moment m in
          let again : next conf moment m ≡ Some one = tries_again m moment (omega arith) in
          let most : wait_after m.tries ≤ last_wait = wait_most m.tries in
          let under : moment + last_wait < never = come.1 in
          let due : one.due.0 ≡ moment + wait_after m.tries = later_is moment (wait_after m.tries) (omega arith) in
          let next_course = again_for one more (omega arith) (omega arith) (record { group = same.group; vid = same.vid; ip = same.ip }) come.2 in
          comes m moment more come.0 below
          ∙ ap (λ (o : Option NeighRec). at moment (if is_some o then Ask m.group m.vid m.ip else Gone m.group m.vid m.ip) ∷ alone conf o more) again
          ∙ ap (λ (first : At). first ∷ alone conf (Some one) more) (asks_one m moment same)
          ∙ ap (λ (back : List At). at moment (Ask n.group n.vid n.ip) ∷ back)
          (next_course ∙ ap (λ (d : ℕ). asks (tried_at (waits_from left (m.tries + 1)) d more) ++ goes (given_up_at (waits_from left (m.tries + 1)) d more)) due)

below_moments : (settlings : List Settling) → AllByRecursion (λ s. s.moment + last_wait < never) settlings → AllByRecursion IsBelow (moments_of settlings)
below_moments [] all = tt
below_moments (s ∷ more) all = (all.0, below_moments more all.1)

pub asked_as_due : (conf : Configuration) (n : NeighRec) (before : List NeighRec) (settlings : List Settling) (after : List NeighRec) → IsFirstRun conf n before settlings after → is_gateway conf n ≡ false
    → told_of n settlings ≡ ten_tries n (moments_of settlings)
asked_as_due conf n before settlings after first off =
    let moments : List ℕ = moments_of settlings in
    as_alone conf n before settlings after first.keys first.run
    ∙ ap (λ (o : Option NeighRec). alone conf o moments) first.there
    ∙ course conf n off 10 n moments (omega (arith, first.not_asked)) first.comes (record { group = refl; vid = refl; ip = refl }) (below_moments settlings first.below)
    ∙ ap (λ (tries : ℕ). asked_at n (tried_at (waits_from 10 tries) n.due.0 moments) ++ map (λ moment. at moment (Gone n.group n.vid n.ip)) (given_up_at (waits_from 10 tries) n.due.0 moments)) first.not_asked
