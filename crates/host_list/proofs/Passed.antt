-- What was passed is none that is to be forgotten, and more is passed by looking on.
use Rattle.std.proofs.Common.{◌≡◌, ℕ, ◌<◌, ◌≤◌, ◌==◌, ◌||◌, Bool, true, false, cond, not, Some, List, [], ◌∷◌, map, inl, inr, refl, sym, ap, ◌∙◌, arith, subst, nat_lt, nat_le, if◌then◌else◌}
use Rattle.std.specs.List.{AllByRecursion, list_any}
use Rattle.std.proofs.lemmas.Bool.{cases_Bool, and_from, and_parts, leb-false, ltb-true, ltb-false}
use Rattle.net_base.specs.declared.numbers.Moment.{Moment}
use Rattle.conf_types.specs.declared.state.HostRec.{HostRec}
use Rattle.conf_types.specs.Configuration.{Configuration}
use Rattle.conf_types.specs.State.{is_to_forget}
use Rattle.host_list.specs.declared.ageing.Passed.{Passed}
use Rattle.host_list.specs.declared.shelves.Shelf.{Shelf}
use Rattle.host_list.specs.Addresses.{Entry, off_place}
use Rattle.host_list.specs.Leaving.{from_place}
use Rattle.host_list.specs.Order.{AreRising, first_place, is_due_from}
use Rattle.host_list.specs.Passed.{ArePassed, earlier, is_due_past, least_until, no_earlier, none_passed, start_from}
use Rattle.host_list.specs.Shelves.{is_on, is_shelved}
use Rattle.host_list.proofs.Due.{none_of, not_forgotten}
use Rattle.host_list.proofs.Leaving.{from_first, some_is}
use Rattle.host_list.proofs.Lists.{all_map, all_part, filter_part, before_part}
use Rattle.host_list.proofs.Shelved.{le_true}

none_of_them : (entries : List Entry) → ArePassed none_passed entries
none_of_them [] = tt
none_of_them (e ∷ entries) = ((λ less. absurd (omega arith)), none_of_them entries)

pub none_are : (passed : Passed) → passed ≡ none_passed → (entries : List Entry) → ArePassed passed entries
none_are passed is entries = subst (λ p. ArePassed p entries) (sym is) (none_of_them entries)

pub fewer_are : (passed : Passed) (n : ℕ) (entries : List Entry) → ArePassed passed entries → ArePassed passed (off_place n entries)
fewer_are passed n entries are = all_part (λ (e : Entry). e.0 < passed.front → passed.least.0 ≤ e.1.learned.0) (off_place n entries) entries are (filter_part (λ (e : Entry). not (e.0 == n)) entries)

earlier_first : (a b : Moment) → (earlier a b).0 ≤ a.0
earlier_first a b = elim (cases_Bool (nat_lt b.0 a.0)) [
  | inl less ↦ let is : b.0 < a.0 = ltb-true b.0 a.0 less in subst (λ c. (cond c b a).0 ≤ a.0) (sym less) (omega (arith, is))
  | inr more ↦ subst (λ c. (cond c b a).0 ≤ a.0) (sym more) (omega arith)
]

earlier_second : (a b : Moment) → (earlier a b).0 ≤ b.0
earlier_second a b = elim (cases_Bool (nat_lt b.0 a.0)) [
  | inl less ↦ subst (λ c. (cond c b a).0 ≤ b.0) (sym less) (omega arith)
  | inr more ↦ subst (λ c. (cond c b a).0 ≤ b.0) (sym more) (ltb-false b.0 a.0 more)
]

-- ---- looking on

module _ (test : HostRec → Bool) where
  least_within : (least : Moment) (entries : List Entry) → (least_until test least entries).0 ≤ least.0
  least_within least [] = omega arith
  least_within least (e ∷ entries) =
      elim (test e.1) as (λ b. (if b then least else least_until test (earlier least e.1.learned) entries).0 ≤ least.0) [
        | true ↦ omega arith
        | false ↦ omega (arith, least_within (earlier least e.1.learned) entries, earlier_first least e.1.learned)
      ]

  none_below : (n : ℕ) (m : Moment) (entries : List Entry) → AllByRecursion (λ (e : Entry). n < e.0) entries → AllByRecursion (λ (e : Entry). e.0 < n → m.0 ≤ e.1.learned.0) entries
  none_below n m = all_map (λ (e : Entry). n < e.0) (λ (e : Entry). e.0 < n → m.0 ≤ e.1.learned.0) (λ e above less. let is : n < e.0 = above in absurd (omega (arith, is, less)))

  until_first : (n : ℕ) (least : Moment) (entries : List Entry) → AreRising entries → first_place test entries ≡ Some n
      → AllByRecursion (λ (e : Entry). e.0 < n → (least_until test least entries).0 ≤ e.1.learned.0) entries
  until_first n least [] rising first = tt
  until_first n least (e ∷ entries) rising first =
      elim (cases_Bool (test e.1)) [
        | inl here ↦ let is : e.0 ≡ n = some_is e.0 n (sym (ap (λ b. if b then Some e.0 else first_place test entries) here) ∙ first) in
            ((λ less. absurd (omega (arith, is, less))), none_below n (least_until test least (e ∷ entries)) entries (subst (λ k. AllByRecursion (λ (f : Entry). k < f.0) entries) is rising.0))
        | inr other ↦ let later = sym (ap (λ b. if b then Some e.0 else first_place test entries) other) ∙ first in
            let next = earlier least e.1.learned in
            subst (λ (m : Moment). AllByRecursion (λ (f : Entry). f.0 < n → m.0 ≤ f.1.learned.0) (e ∷ entries)) (sym (ap (λ b. if b then least else least_until test next entries) other))
            ((λ less. omega (arith, least_within next entries, earlier_second least e.1.learned)), until_first n next entries rising.1 later)
      ]

-- what holds from a place on and before it
joined : (P : Entry → Type 0) (n : ℕ) (entries : List Entry) → AllByRecursion P (from_place n entries) → AllByRecursion (λ (e : Entry). e.0 < n → P e) entries → AllByRecursion P entries
joined P n [] from before = tt
joined P n (e ∷ entries) from before =
    elim (cases_Bool (nat_le n e.0)) [
      | inl within ↦ let rest = subst (λ b. AllByRecursion P (cond b (e ∷ from_place n entries) (from_place n entries))) within from in (rest.0, joined P n entries rest.1 before.1)
      | inr below ↦ let rest = subst (λ b. AllByRecursion P (cond b (e ∷ from_place n entries) (from_place n entries))) below from in (before.0 (leb-false n e.0 below), joined P n entries rest before.1)
    ]

pub looked : (test : HostRec → Bool) (passed : Passed) (n : ℕ) (entries : List Entry) → AreRising entries → ArePassed passed entries → first_place test (from_place passed.front entries) ≡ Some n
    → ArePassed (record { front = n; least = least_until test passed.least (from_place passed.front entries) }) entries
looked test passed n entries rising are first =
    let from = from_place passed.front entries in
    let m = least_until test passed.least from in
    joined (λ (e : Entry). e.0 < n → m.0 ≤ e.1.learned.0) passed.front entries
    (until_first test n passed.least from (before_part (λ (e : Entry) (f : Entry). e.0 < f.0) from entries rising (filter_part (λ (e : Entry). nat_le passed.front e.0) entries)) first)
    (all_map (λ (e : Entry). e.0 < passed.front → passed.least.0 ≤ e.1.learned.0) (λ (e : Entry). e.0 < passed.front → e.0 < n → m.0 ≤ e.1.learned.0) (λ e is less below. let within : passed.least.0 ≤ e.1.learned.0 = is less in omega (arith, within, least_within test passed.least from)) entries are)

-- ---- what was passed

module _ (conf : Configuration) (moment : ℕ) where
  on_later : (least : Moment) (host : HostRec) (shelf : Shelf) → least.0 ≤ host.learned.0 → is_on host shelf ≡ true → is_on host (no_earlier least shelf) ≡ true
  on_later least host shelf within on =
      let both = and_parts (shelf.dp.0 == host.dp.0) (nat_le shelf.least.0 host.learned.0) on in
      elim (nat_lt shelf.least.0 least.0) as (λ b. is_on host (cond b (record shelf { least = least }) shelf) ≡ true) [
        | true ↦ and_from (shelf.dp.0 == host.dp.0) (nat_le least.0 host.learned.0) both.0 (le_true least.0 host.learned.0 within)
        | false ↦ on
      ]

  shelved_later : (least : Moment) (host : HostRec) (shelves : List Shelf) → least.0 ≤ host.learned.0 → is_shelved shelves host ≡ true → is_shelved (map (no_earlier least) shelves) host ≡ true
  shelved_later least host [] within on = on
  shelved_later least host (shelf ∷ shelves) within on =
      elim (cases_Bool (is_on host shelf)) [
        | inl here ↦ ap (λ b. b || is_shelved (map (no_earlier least) shelves) host) (on_later least host shelf within here)
        | inr other ↦ some_more (is_on host (no_earlier least shelf)) (is_shelved (map (no_earlier least) shelves) host) (shelved_later least host shelves within (sym (ap (λ b. b || is_shelved shelves host) other) ∙ on))
      ]
    where
      some_more : (a b : Bool) → b ≡ true → (a || b) ≡ true
      some_more true b is = refl
      some_more false b is = is

  any_later : (least : Moment) (shelves : List Shelf) → list_any (is_due_past conf moment least) shelves ≡ list_any (is_due_from conf moment) (map (no_earlier least) shelves)
  any_later least [] = refl
  any_later least (shelf ∷ shelves) = ap (λ b. is_due_past conf moment least shelf || b) (any_later least shelves)

  none_past : (passed : Passed) (shelves : List Shelf) → list_any (is_due_past conf moment passed.least) shelves ≡ false → (entries : List Entry) → ArePassed passed entries
      → AllByRecursion (λ (e : Entry). is_shelved shelves e.1 ≡ true) entries → first_place (is_to_forget conf moment) (from_place passed.front entries) ≡ first_place (is_to_forget conf moment) entries
  none_past passed shelves off [] are on = refl
  none_past passed shelves off (e ∷ entries) are on =
      let test = is_to_forget conf moment in
      let rest = none_past passed shelves off entries are.1 on.1 in
      elim (cases_Bool (nat_le passed.front e.0)) [
        | inl within ↦ ap (λ b. first_place test (cond b (e ∷ from_place passed.front entries) (from_place passed.front entries))) within ∙ ap (λ o. if test e.1 then Some e.0 else o) rest
        | inr below ↦
            let stays : test e.1 ≡ false = not_forgotten conf moment e.1 (none_of conf moment (map (no_earlier passed.least) shelves) e.1 (shelved_later passed.least e.1 shelves (are.0 (leb-false passed.front e.0 below)) on.0) (sym (any_later passed.least shelves) ∙ off)) in
            ap (λ b. first_place test (cond b (e ∷ from_place passed.front entries) (from_place passed.front entries))) below ∙ rest ∙ sym (ap (λ b. if b then Some e.0 else first_place test entries) stays)
      ]

  pub started : (passed start : Passed) (shelves : List Shelf) (entries : List Entry) → start ≡ start_from conf moment shelves passed → ArePassed passed entries → AllByRecursion (λ (e : Entry). is_shelved shelves e.1 ≡ true) entries
      → ArePassed start entries × (first_place (is_to_forget conf moment) (from_place start.front entries) ≡ first_place (is_to_forget conf moment) entries)
  started passed start shelves entries is are on =
      let goes : Passed → Type 0 = λ p. ArePassed p entries × (first_place (is_to_forget conf moment) (from_place p.front entries) ≡ first_place (is_to_forget conf moment) entries) in
      subst goes (sym is) (elim (cases_Bool (list_any (is_due_past conf moment passed.least) shelves)) [
        | inl due ↦ subst (λ b. goes (cond b none_passed passed)) (sym due) (none_of_them entries, ap (first_place (is_to_forget conf moment)) (from_first entries))
        | inr off ↦ subst (λ b. goes (cond b none_passed passed)) (sym off) (are, none_past passed shelves off entries are on)
      ])
