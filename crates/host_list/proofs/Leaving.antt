-- Taking out the first that passes, until none does; and giving each that is heard its moment.
use Rattle.std.proofs.Common.{◌≡◌, ℕ, ◌+◌, ◌<◌, ◌≤◌, ◌==◌, ◌&&◌, ◌++◌, Bool, true, false, cond, not, Option, Some, None, List, [], ◌∷◌, filter, find, nat_le, length, inl, inr, refl, sym, ap, ◌∙◌, arith, subst, eq-eqb, sum_by, count_by, if◌then◌else◌}
use Rattle.std.specs.List.{AllByRecursion}
use Rattle.std.specs.BTreeMap.{is_at}
use Rattle.std.specs.BTreeMap.Range.{entries_between}
use Rattle.std.specs.declared.ops.Bound.TheVariants.{Included, Unbounded}
use Rattle.std.specs.Map.{lookup}
use Rattle.std.specs.Ordering.{is_le, nat_cmp}
use Rattle.std.proofs.lemmas.Bool.{cases_Bool, and_parts, eqb-true, le-leb, lt-leb}
use Rattle.std.proofs.lemmas.Bool.Decides.{nat_tests}
use Rattle.std.proofs.lemmas.List.Sums.{count_by-le-length, length-filter, sum_by-cons}
use Rattle.net_base.specs.declared.numbers.Moment.{Moment}
use Rattle.conf_types.specs.declared.state.HostRec.{HostRec}
use Rattle.conf_types.specs.Configuration.{Configuration}
use Rattle.host_list.specs.Addresses.{Entry, off_place, heard_at}
use Rattle.host_list.specs.Leaving.{from_place}
use Rattle.host_list.specs.Hosts.{is_heard, is_in_place, moved, refreshed}
use Rattle.host_list.specs.Order.{AreRising, first_entry, first_place, hosts_of, is_old, is_other}
use Rattle.host_list.specs.Hosts.{without_first}
use Rattle.host_list.proofs.Entries.{IsOnly, filter_off, none_heard, none_off, not_there, off_other, only, same_test, sum_off, eqb-false}

pub some_is : {A : Type 0} (a b : A) → ◌≡◌ {A = Option A} (Some a) (Some b) → a ≡ b
some_is a b e = cc

pub none_some : {A : Type 0} (a : A) → ◌≡◌ {A = Option A} None (Some a) → ⊥
none_some a e = absurd (cc)

-- the entry at a place that is found passes
pub record Passes (test : Entry → Bool) (n : ℕ) (entries : List Entry) : Type 0 where
  pub host : HostRec
  pub found : lookup (is_at (nat_cmp n)) entries ≡ Some host
  pub passes : test (n, host) ≡ true

module _ (test : Entry → Bool) where
  above : (k n : ℕ) (entries : List Entry) → AllByRecursion (λ (f : Entry). k < f.0) entries → first_entry test entries ≡ Some n → k < n
  above k n [] all first = absurd (none_some n first)
  above k n (e ∷ entries) all first =
      elim (cases_Bool (test e)) [
        | inl here ↦ subst (λ m. k < m) (some_is e.0 n (sym (ap (λ b. if b then Some e.0 else first_entry test entries) here) ∙ first)) all.0
        | inr other ↦ above k n entries all.1 (sym (ap (λ b. if b then Some e.0 else first_entry test entries) other) ∙ first)
      ]

  pub passing : (n : ℕ) (entries : List Entry) → AreRising entries → first_entry test entries ≡ Some n → Passes test n entries
  passing n [] rising first = absurd (none_some n first)
  passing n (e ∷ entries) rising first =
      elim (cases_Bool (test e)) [
        | inl here ↦ let is : e.0 ≡ n = some_is e.0 n (sym (ap (λ b. if b then Some e.0 else first_entry test entries) here) ∙ first) in
            record { host = e.1; found = ap (λ b. cond b (Some e.1) (lookup (is_at (nat_cmp n)) entries)) (same_test n e.0 ∙ eq-eqb e.0 n is); passes = ap (λ k. test (k, e.1)) (sym is) ∙ here }
        | inr other ↦ let later = sym (ap (λ b. if b then Some e.0 else first_entry test entries) other) ∙ first in
            let rest = passing n entries rising.1 later in
            let less : e.0 < n = above e.0 n entries rising.0 later in
            record { host = rest.host; found = ap (λ b. cond b (Some e.1) (lookup (is_at (nat_cmp n)) entries)) (same_test n e.0 ∙ eqb-false e.0 n (λ same. omega arith)) ∙ rest.found; passes = rest.passes }
      ]

  pub left : (n : ℕ) (entries : List Entry) → AreRising entries → first_entry test entries ≡ Some n → filter (λ (e : Entry). not (test e)) (off_place n entries) ≡ filter (λ (e : Entry). not (test e)) entries
  left n entries rising first =
      let at = passing n entries rising first in
      filter_off n (λ (e : Entry). not (test e)) entries ∙ off_other n (filter (λ (e : Entry). not (test e)) entries) (not_there n (λ (e : Entry). not (test e)) entries at.host (only n entries at.host rising at.found) (ap not at.passes))

  pub none_left : (entries : List Entry) → first_entry test entries ≡ None → filter (λ (e : Entry). not (test e)) entries ≡ entries
  none_left [] none = refl
  none_left (e ∷ entries) none =
      elim (cases_Bool (test e)) [
        | inl here ↦ absurd (none_some e.0 (sym none ∙ ap (λ b. if b then Some e.0 else first_entry test entries) here))
        | inr other ↦ ap (λ b. cond (not b) (e ∷ filter (λ (e : Entry). not (test e)) entries) (filter (λ (e : Entry). not (test e)) entries)) other
            ∙ ap (λ rest. e ∷ rest) (none_left entries (sym (ap (λ b. if b then Some e.0 else first_entry test entries) other) ∙ none))
      ]

  ones : (entries : List Entry) → sum_by (λ (e : Entry). 1) entries ≡ length entries
  ones [] = refl
  ones (e ∷ entries) = omega (arith, sum_by-cons (λ (e : Entry). 1) e entries, ones entries)

  pub fewer : (n : ℕ) (entries : List Entry) → AreRising entries → first_entry test entries ≡ Some n → length (off_place n entries) < length entries
  fewer n entries rising first =
      let at = passing n entries rising first in
      omega (arith, sum_off n (λ h. 1) entries at.host rising at.found, ones entries, ones (off_place n entries))

pub place_is_entry : (test : HostRec → Bool) (entries : List Entry) → first_place test entries ≡ first_entry (λ (e : Entry). test e.1) entries
place_is_entry test [] = refl
place_is_entry test (e ∷ entries) = ap (λ o. if test e.1 then Some e.0 else o) (place_is_entry test entries)

-- ---- the entries from a place on

pub from_first : (entries : List Entry) → from_place 0 entries ≡ entries
from_first [] = refl
from_first (e ∷ entries) = ap (λ b. cond b (e ∷ from_place 0 entries) (from_place 0 entries)) (le-leb 0 e.0 (omega arith)) ∙ ap (λ es. e ∷ es) (from_first entries)

all_from : (n : ℕ) (entries : List Entry) → AllByRecursion (λ (e : Entry). n < e.0) entries → from_place n entries ≡ entries
all_from n [] above = refl
all_from n (e ∷ entries) above = let less : n < e.0 = above.0 in
    ap (λ b. cond b (e ∷ from_place n entries) (from_place n entries)) (le-leb n e.0 (omega (arith, less))) ∙ ap (λ es. e ∷ es) (all_from n entries above.1)

-- a tree's range from a key on
pub range_from : (n : ℕ) (entries : List Entry) → entries_between nat_cmp (Included n) Unbounded entries ≡ from_place n entries
range_from n [] = refl
range_from n (e ∷ entries) =
    ap (λ b. cond b (e ∷ entries_between nat_cmp (Included n) Unbounded entries) (entries_between nat_cmp (Included n) Unbounded entries)) (within n e.0)
    ∙ ap (λ es. cond (nat_le n e.0) (e ∷ es) es) (range_from n entries)
  where
    within : (n k : ℕ) → (is_le (nat_cmp n k) && not false) ≡ nat_le n k
    within n k = grind (arith, nat_tests)

-- ---- the first host that passes

module _ (test : HostRec → Bool) where
  pub first_found : (n : ℕ) (entries : List Entry) → AreRising entries → first_place test entries ≡ Some n → lookup (is_at (nat_cmp n)) entries ≡ find test (hosts_of entries)
  first_found n [] rising first = refl
  first_found n (e ∷ entries) rising first =
      elim (cases_Bool (test e.1)) [
        | inl here ↦ let is : e.0 ≡ n = some_is e.0 n (sym (ap (λ b. if b then Some e.0 else first_place test entries) here) ∙ first) in
            ap (λ b. cond b (Some e.1) (lookup (is_at (nat_cmp n)) entries)) (same_test n e.0 ∙ eq-eqb e.0 n is) ∙ sym (ap (λ b. cond b (Some e.1) (find test (hosts_of entries))) here)
        | inr other ↦ let later = sym (ap (λ b. if b then Some e.0 else first_place test entries) other) ∙ first in
            let less : e.0 < n = above (λ (e : Entry). test e.1) e.0 n entries rising.0 (sym (place_is_entry test entries) ∙ later) in
            ap (λ b. cond b (Some e.1) (lookup (is_at (nat_cmp n)) entries)) (same_test n e.0 ∙ eqb-false e.0 n (λ same. omega arith)) ∙ first_found n entries rising.1 later ∙ sym (ap (λ b. cond b (Some e.1) (find test (hosts_of entries))) other)
      ]

  pub first_left : (n : ℕ) (entries : List Entry) → AreRising entries → first_place test entries ≡ Some n → hosts_of (off_place n entries) ≡ without_first test (hosts_of entries)
  first_left n [] rising first = refl
  first_left n (e ∷ entries) rising first =
      elim (cases_Bool (test e.1)) [
        | inl here ↦ let is : e.0 ≡ n = some_is e.0 n (sym (ap (λ b. if b then Some e.0 else first_place test entries) here) ∙ first) in
            ap (λ b. hosts_of (cond (not b) (e ∷ off_place n entries) (off_place n entries))) (eq-eqb e.0 n is)
            ∙ ap hosts_of (none_off n entries (subst (λ k. AllByRecursion (λ (f : Entry). k < f.0) entries) is rising.0)) ∙ sym (ap (λ b. cond b (hosts_of entries) (e.1 ∷ without_first test (hosts_of entries))) here)
        | inr other ↦ let later = sym (ap (λ b. if b then Some e.0 else first_place test entries) other) ∙ first in
            let less : e.0 < n = above (λ (e : Entry). test e.1) e.0 n entries rising.0 (sym (place_is_entry test entries) ∙ later) in
            ap (λ b. hosts_of (cond (not b) (e ∷ off_place n entries) (off_place n entries))) (eqb-false e.0 n (λ same. omega arith))
            ∙ ap (λ rest. e.1 ∷ rest) (first_left n entries rising.1 later) ∙ sym (ap (λ b. cond b (hosts_of entries) (e.1 ∷ without_first test (hosts_of entries))) other)
      ]

  pub no_first : (entries : List Entry) → first_place test entries ≡ None → (find test (hosts_of entries) ≡ None) × (without_first test (hosts_of entries) ≡ hosts_of entries)
  no_first [] none = (refl, refl)
  no_first (e ∷ entries) none =
      elim (cases_Bool (test e.1)) [
        | inl here ↦ absurd (none_some e.0 (sym none ∙ ap (λ b. if b then Some e.0 else first_place test entries) here))
        | inr other ↦ let rest = no_first entries (sym (ap (λ b. if b then Some e.0 else first_place test entries) other) ∙ none) in
            (ap (λ b. cond b (Some e.1) (find test (hosts_of entries))) other ∙ rest.0, ap (λ b. cond b (hosts_of entries) (e.1 ∷ without_first test (hosts_of entries))) other ∙ ap (λ hs. e.1 ∷ hs) rest.1)
      ]

  -- ---- looking on from the place of the one before

  -- what stands from the place of the first one on, where that one is out, has the first of the rest
  pub looked_on : (n : ℕ) (entries : List Entry) → AreRising entries → first_place test entries ≡ Some n → first_place test (from_place n (off_place n entries)) ≡ first_place test (off_place n entries)
  looked_on n [] rising first = refl
  looked_on n (e ∷ entries) rising first =
      elim (cases_Bool (test e.1)) [
        | inl here ↦ let is : e.0 ≡ n = some_is e.0 n (sym (ap (λ b. if b then Some e.0 else first_place test entries) here) ∙ first) in
            let above = subst (λ k. AllByRecursion (λ (f : Entry). k < f.0) entries) is rising.0 in
            let rest : off_place n (e ∷ entries) ≡ entries = ap (λ b. cond (not b) (e ∷ off_place n entries) (off_place n entries)) (eq-eqb e.0 n is) ∙ none_off n entries above in
            ap (first_place test) (ap (from_place n) rest ∙ all_from n entries above ∙ sym rest)
        | inr other ↦ let later = sym (ap (λ b. if b then Some e.0 else first_place test entries) other) ∙ first in
            let less : e.0 < n = above (λ (e : Entry). test e.1) e.0 n entries rising.0 (sym (place_is_entry test entries) ∙ later) in
            let rest : off_place n (e ∷ entries) ≡ e ∷ off_place n entries = ap (λ b. cond (not b) (e ∷ off_place n entries) (off_place n entries)) (eqb-false e.0 n (λ same. omega arith)) in
            ap (λ es. first_place test (from_place n es)) rest
            ∙ ap (λ b. first_place test (cond b (e ∷ from_place n (off_place n entries)) (from_place n (off_place n entries)))) (lt-leb n e.0 less)
            ∙ looked_on n entries rising.1 later
            ∙ sym (ap (first_place test) rest ∙ ap (λ b. if b then Some e.0 else first_place test (off_place n entries)) other)
      ]

  pub hosts_filter : (entries : List Entry) → hosts_of (filter (λ (e : Entry). not (test e.1)) entries) ≡ filter (λ h. not (test h)) (hosts_of entries)
  hosts_filter [] = refl
  hosts_filter (e ∷ entries) =
      let rest = filter (λ (e : Entry). not (test e.1)) entries in
      elim (not (test e.1)) as (λ b. hosts_of (cond b (e ∷ rest) rest) ≡ cond b (e.1 ∷ filter (λ h. not (test h)) (hosts_of entries)) (filter (λ h. not (test h)) (hosts_of entries))) [
        | true ↦ ap (λ hs. e.1 ∷ hs) (hosts_filter entries)
        | false ↦ hosts_filter entries
      ]

-- ---- a host that moves

pub moved_is : (conf : Configuration) (heard : HostRec) (place : ℕ) (entries : List Entry) → AllByRecursion (λ (e : Entry). e.0 < place) entries
    → hosts_of (filter (λ (e : Entry). not (is_other conf heard place e)) (entries ++ (place, heard) ∷ [])) ≡ moved conf heard (hosts_of entries)
moved_is conf heard place [] below = ap (λ b. hosts_of (cond (not b) ((place, heard) ∷ []) [])) (ap (λ b. is_heard conf heard heard && not b) (eq-eqb place place refl) ∙ never (is_heard conf heard heard))
  where
    never : (b : Bool) → (b && false) ≡ false
    never true = refl
    never false = refl
moved_is conf heard place (e ∷ entries) below =
    let rest = filter (λ (e : Entry). not (is_other conf heard place e)) (entries ++ (place, heard) ∷ []) in
    let there : is_other conf heard place e ≡ is_heard conf heard e.1 = ap (λ b. is_heard conf heard e.1 && not b) (eqb-false e.0 place (λ same. let is : e.0 < place = below.0 in omega arith)) ∙ always (is_heard conf heard e.1) in
    ap (λ b. hosts_of (cond (not b) (e ∷ rest) rest)) there
    ∙ elim (is_heard conf heard e.1) as (λ b. hosts_of (cond (not b) (e ∷ rest) rest) ≡ cond (not b) (e.1 ∷ filter (λ h. not (is_heard conf heard h)) (hosts_of entries)) (filter (λ h. not (is_heard conf heard h)) (hosts_of entries)) ++ heard ∷ []) [
      | true ↦ moved_is conf heard place entries below.1
      | false ↦ ap (λ hs. e.1 ∷ hs) (moved_is conf heard place entries below.1)
    ]
  where
    always : (b : Bool) → (b && true) ≡ b
    always true = refl
    always false = refl

-- ---- a host that is refreshed

module _ (heard : HostRec) where
  same_moment : (a b : Moment) → a.0 ≡ b.0 → a ≡ b
  same_moment a b e = (λ i. record { 0 = e i })

  in_place : (h : HostRec) (k : ℕ) → is_old heard (k, h) ≡ true → is_in_place heard h ≡ true
  in_place h k is = (and_parts (is_in_place heard h) (not (h.learned.0 == heard.learned.0)) is).0

  pub still : (n : ℕ) (entries : List Entry) (host : HostRec) → IsOnly n host entries → is_in_place heard host ≡ true → refreshed heard (hosts_of (heard_at n heard.learned entries)) ≡ refreshed heard (hosts_of entries)
  still n [] host at there = refl
  still n (e ∷ entries) host at there =
      let one : HostRec → HostRec = λ h. if is_in_place heard h then record h { learned = heard.learned } else h in
      let first : one (if e.0 == n then (e.0, record e.1 { learned = heard.learned }) else e).1 ≡ one e.1 = elim (cases_Bool (e.0 == n)) [
        | inl same ↦ let here : is_in_place heard e.1 ≡ true = ap (is_in_place heard) (at.0 same) ∙ there in
            let new : HostRec = record e.1 { learned = heard.learned } in
            ap (λ b. one (if b then (e.0, new) else e).1) same ∙ ap (λ b. if b then record new { learned = heard.learned } else new) here ∙ sym (ap (λ b. if b then record e.1 { learned = heard.learned } else e.1) here)
        | inr other ↦ ap (λ b. one (if b then (e.0, record e.1 { learned = heard.learned }) else e).1) other
      ] in
      ap (λ h. h ∷ refreshed heard (hosts_of (heard_at n heard.learned entries))) first ∙ ap (λ hs. one e.1 ∷ hs) (still n entries host at.1 there)

  pub still_first : (n : ℕ) (entries : List Entry) → AreRising entries → first_entry (is_old heard) entries ≡ Some n → refreshed heard (hosts_of (heard_at n heard.learned entries)) ≡ refreshed heard (hosts_of entries)
  still_first n entries rising first =
      let at = passing (is_old heard) n entries rising first in
      still n entries at.host (only n entries at.host rising at.found) (in_place at.host n at.passes)

  pub all_heard : (entries : List Entry) → first_entry (is_old heard) entries ≡ None → hosts_of entries ≡ refreshed heard (hosts_of entries)
  all_heard [] none = refl
  all_heard (e ∷ entries) none =
      elim (cases_Bool (is_old heard e)) [
        | inl here ↦ absurd (none_some e.0 (sym none ∙ ap (λ b. if b then Some e.0 else first_entry (is_old heard) entries) here))
        | inr other ↦
            let rest = all_heard entries (sym (ap (λ b. if b then Some e.0 else first_entry (is_old heard) entries) other) ∙ none) in
            let first : e.1 ≡ (if is_in_place heard e.1 then record e.1 { learned = heard.learned } else e.1) = elim (cases_Bool (is_in_place heard e.1)) [
              | inl here ↦ let learned : e.1.learned ≡ heard.learned = same_moment e.1.learned heard.learned (eqb-true e.1.learned.0 heard.learned.0 (not_not (e.1.learned.0 == heard.learned.0) (sym (ap (λ b. b && not (e.1.learned.0 == heard.learned.0)) here) ∙ other))) in
                  ap (λ (t : Moment). record e.1 { learned = t }) learned ∙ sym (ap (λ b. if b then record e.1 { learned = heard.learned } else e.1) here)
              | inr off ↦ sym (ap (λ b. if b then record e.1 { learned = heard.learned } else e.1) off)
            ] in
            ap (λ h. h ∷ hosts_of entries) first ∙ ap (λ hs. (if is_in_place heard e.1 then record e.1 { learned = heard.learned } else e.1) ∷ hs) rest
      ]
    where
      not_not : (b : Bool) → not b ≡ false → b ≡ true
      not_not true is = refl
      not_not false is = sym is

  old_less : (n : ℕ) (entries : List Entry) (host : HostRec) → AreRising entries → lookup (is_at (nat_cmp n)) entries ≡ Some host → is_old heard (n, host) ≡ true
      → count_by (is_old heard) (heard_at n heard.learned entries) + 1 ≡ count_by (is_old heard) entries
  old_less n [] host rising found passes = absurd (none_some host found)
  old_less n (e ∷ entries) host rising found passes =
      let one : Entry → ℕ = λ e. cond (is_old heard e) 1 0 in
      let new : Entry = if e.0 == n then (e.0, record e.1 { learned = heard.learned }) else e in
      elim (cases_Bool (e.0 == n)) [
        | inl same ↦
            let is : e.1 ≡ host = some_is e.1 host (sym (ap (λ b. cond b (Some e.1) (lookup (is_at (nat_cmp n)) entries)) (same_test n e.0 ∙ same)) ∙ found) in
            let was : ◌≡◌ {A = ℕ} (cond (is_old heard e) 1 0) 1 = ap (λ b. cond b 1 0) (ap (λ (h : HostRec). is_old heard (n, h)) is ∙ passes) in
            let now : ◌≡◌ {A = ℕ} (cond (is_old heard (if e.0 == n then (e.0, record e.1 { learned = heard.learned }) else e)) 1 0) 0 =
            ap (λ b. cond (is_old heard (if b then (e.0, record e.1 { learned = heard.learned }) else e)) 1 0) same ∙ ap (λ b. cond (is_in_place heard e.1 && not b) 1 0) (eq-eqb heard.learned.0 heard.learned.0 refl) ∙ never (is_in_place heard e.1) in
            let rest : count_by (is_old heard) (heard_at n heard.learned entries) ≡ count_by (is_old heard) entries = ap (count_by (is_old heard)) (none_heard n heard.learned entries (subst (λ k. AllByRecursion (λ (f : Entry). k < f.0) entries) (eqb-true e.0 n same) rising.0)) in
            omega (arith, sum_by-cons (λ (e : Entry). cond (is_old heard e) 1 0) e entries, sum_by-cons (λ (e : Entry). cond (is_old heard e) 1 0) (if e.0 == n then (e.0, record e.1 { learned = heard.learned }) else e) (heard_at n heard.learned entries), was, now, rest)
        | inr other ↦
            let later : lookup (is_at (nat_cmp n)) entries ≡ Some host = sym (ap (λ b. cond b (Some e.1) (lookup (is_at (nat_cmp n)) entries)) (same_test n e.0 ∙ other)) ∙ found in
            let stays : ◌≡◌ {A = ℕ} (cond (is_old heard (if e.0 == n then (e.0, record e.1 { learned = heard.learned }) else e)) 1 0) (cond (is_old heard e) 1 0) = ap (λ b. cond (is_old heard (if b then (e.0, record e.1 { learned = heard.learned }) else e)) 1 0) other in
            omega (arith, sum_by-cons (λ (e : Entry). cond (is_old heard e) 1 0) e entries, sum_by-cons (λ (e : Entry). cond (is_old heard e) 1 0) (if e.0 == n then (e.0, record e.1 { learned = heard.learned }) else e) (heard_at n heard.learned entries), stays, old_less n entries host rising.1 later passes)
      ]
    where
      never : (b : Bool) → ◌≡◌ {A = ℕ} (cond (b && false) 1 0) 0
      never true = refl
      never false = refl

  pub fewer_old : (n : ℕ) (entries : List Entry) → AreRising entries → first_entry (is_old heard) entries ≡ Some n → count_by (is_old heard) (heard_at n heard.learned entries) < count_by (is_old heard) entries
  fewer_old n entries rising first =
      let at = passing (is_old heard) n entries rising first in
      omega (arith, old_less n entries at.host rising at.found at.passes)

-- ---- a part is within a limit

pub part_within : (test : Entry → Bool) (entries : List Entry) (limit : ℕ) → length entries ≤ limit → length (filter test entries) ≤ limit
part_within test entries limit within = omega (arith, length-filter test entries, count_by-le-length test entries, within)
