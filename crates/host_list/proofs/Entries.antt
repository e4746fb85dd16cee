-- Entries whose places rise: one more at the end, one fewer, and another moment.
use Rattle.std.proofs.Common.{◌≡◌, ℕ, ◌+◌, ◌<◌, ◌≤◌, ◌==◌, ◌++◌, Bool, true, false, cond, not, Option, Some, None, List, [], ◌∷◌, filter, inl, inr, refl, sym, ap, ◌∙◌, arith, subst, eq-eqb, if◌then◌else◌, sum_by, nat_lt, append-nil}
use Rattle.std.specs.List.{AllByRecursion}
use Rattle.std.specs.BTreeMap.{insert_entry, is_at}
use Rattle.std.specs.Map.{lookup, remove_entry, set_value}
use Rattle.std.specs.Ordering.{nat_cmp, is_eq, match_ordering}
use Rattle.std.specs.declared.cmp.Ordering.TheVariants.{Less, Equal, Greater}
use Rattle.std.specs.Cmp.{nat_cmp_is}
use Rattle.std.proofs.lemmas.Bool.{cases_Bool, eqb-true, false≢true, ltb-false, ltb-true}
use Rattle.std.proofs.lemmas.List.Elements.{filter-append}
use Rattle.std.proofs.lemmas.List.Sums.{sum_by-cons}
use Rattle.std.proofs.lemmas.Map.{none_passes_from_lookup}
use Rattle.net_base.specs.declared.numbers.Moment.{Moment}
use Rattle.conf_types.specs.declared.state.HostRec.{HostRec}
use Rattle.host_list.specs.Addresses.{Entry, off_place, heard_at}
use Rattle.host_list.specs.Order.{AreRising}
use Rattle.host_list.proofs.Lists.{all_map}

eq_false : (a b : ℕ) → (a == b) ≡ false → a ≡ b → ⊥
eq_false a b other same = false≢true (sym other ∙ eq-eqb a b same)

pub eqb-false : (a b : ℕ) → (a ≡ b → ⊥) → (a == b) ≡ false
eqb-false a b other = elim (cases_Bool (a == b)) [ inl e ↦ absurd (other (eqb-true a b e)) | inr e ↦ e ]

-- a tree's test of keys is equality
pub same_test : (n k : ℕ) → is_eq (nat_cmp n k) ≡ (k == n)
same_test n k =
    elim (cases_Bool (k == n)) [
      | inl e ↦ ap is_eq (sym (nat_cmp_is n k Equal (sym (eqb-true k n e)))) ∙ sym e
      | inr e ↦ elim (cases_Bool (nat_lt n k)) [
        | inl less ↦ ap is_eq (sym (nat_cmp_is n k Less (ltb-true n k less))) ∙ sym e
        | inr more ↦ let at_most : k ≤ n = ltb-false n k more in
            let below : k < n = elim (cases_Bool (nat_lt k n)) [
              | inl is ↦ ltb-true k n is
              | inr is ↦ let other : n ≤ k = ltb-false k n is in absurd (eq_false k n e (omega arith))
            ] in ap is_eq (sym (nat_cmp_is n k Greater below)) ∙ sym e
      ]
    ]

module _ (n : ℕ) where
  -- ---- an entry more

  pub pushed : (entries : List Entry) (host : HostRec) → AllByRecursion (λ (e : Entry). e.0 < n) entries → insert_entry nat_cmp entries n host ≡ entries ++ (n, host) ∷ []
  pushed [] host below = refl
  pushed (e ∷ entries) host below =
      ap (λ o. match_ordering o ((n, host) ∷ e ∷ entries) ((e.0, host) ∷ entries) (e ∷ insert_entry nat_cmp entries n host)) (sym (nat_cmp_is n e.0 Greater below.0))
      ∙ ap (λ rest. e ∷ rest) (pushed entries host below.1)

  -- ---- an entry fewer

  pub none_off : (entries : List Entry) → AllByRecursion (λ (e : Entry). n < e.0) entries → off_place n entries ≡ entries
  none_off [] above = refl
  none_off (e ∷ entries) above =
      ap (λ b. cond (not b) (e ∷ off_place n entries) (off_place n entries)) (eqb-false e.0 n (λ same. let is : n < e.0 = above.0 in omega arith))
      ∙ ap (λ rest. e ∷ rest) (none_off entries above.1)

  behind : (e : Entry) (entries : List Entry) → e.0 ≡ n → AllByRecursion (λ (f : Entry). e.0 < f.0) entries → AllByRecursion (λ (f : Entry). n < f.0) entries
  behind e entries is = all_map (λ (f : Entry). e.0 < f.0) (λ (f : Entry). n < f.0) (λ f less. subst (λ k. k < f.0) is less) entries

  pub taken : (entries : List Entry) → AreRising entries → remove_entry (is_at (nat_cmp n)) entries ≡ off_place n entries
  taken [] rising = refl
  taken (e ∷ entries) rising =
      elim (cases_Bool (e.0 == n)) [
        | inl same ↦ ap (λ b. cond b entries (e ∷ remove_entry (is_at (nat_cmp n)) entries)) (same_test n e.0 ∙ same)
            ∙ sym (ap (λ b. cond (not b) (e ∷ off_place n entries) (off_place n entries)) same ∙ none_off entries (behind e entries (eqb-true e.0 n same) rising.0))
        | inr other ↦ ap (λ b. cond b entries (e ∷ remove_entry (is_at (nat_cmp n)) entries)) (same_test n e.0 ∙ other)
            ∙ ap (λ rest. e ∷ rest) (taken entries rising.1) ∙ sym (ap (λ b. cond (not b) (e ∷ off_place n entries) (off_place n entries)) other)
      ]

  -- ---- another moment

  pub none_heard : (m : Moment) (entries : List Entry) → AllByRecursion (λ (e : Entry). n < e.0) entries → heard_at n m entries ≡ entries
  none_heard m [] above = refl
  none_heard m (e ∷ entries) above =
      ap (λ b. (if b then (e.0, record e.1 { learned = m }) else e) ∷ heard_at n m entries) (eqb-false e.0 n (λ same. let is : n < e.0 = above.0 in omega arith))
      ∙ ap (λ rest. e ∷ rest) (none_heard m entries above.1)

  pub heard : (m : Moment) (entries : List Entry) (host : HostRec) → AreRising entries → lookup (is_at (nat_cmp n)) entries ≡ Some host → set_value (is_at (nat_cmp n)) entries (record host { learned = m }) ≡ heard_at n m entries
  heard m [] host rising found = refl
  heard m (e ∷ entries) host rising found =
      elim (cases_Bool (e.0 == n)) [
        | inl same ↦ let here : ◌≡◌ {A = Option HostRec} (Some e.1) (Some host) = sym (ap (λ b. cond b (Some e.1) (lookup (is_at (nat_cmp n)) entries)) (same_test n e.0 ∙ same)) ∙ found in
            let is : e.1 ≡ host = cc in
            ap (λ b. cond b ((e.0, record host { learned = m }) ∷ entries) (e ∷ set_value (is_at (nat_cmp n)) entries (record host { learned = m }))) (same_test n e.0 ∙ same)
            ∙ ap (λ (h : HostRec). (e.0, record h { learned = m }) ∷ entries) (sym is)
            ∙ sym (ap (λ b. (if b then (e.0, record e.1 { learned = m }) else e) ∷ heard_at n m entries) same ∙ ap (λ rest. (e.0, record e.1 { learned = m }) ∷ rest) (none_heard m entries (behind e entries (eqb-true e.0 n same) rising.0)))
        | inr other ↦ let later : lookup (is_at (nat_cmp n)) entries ≡ Some host = sym (ap (λ b. cond b (Some e.1) (lookup (is_at (nat_cmp n)) entries)) (same_test n e.0 ∙ other)) ∙ found in
            ap (λ b. cond b ((e.0, record host { learned = m }) ∷ entries) (e ∷ set_value (is_at (nat_cmp n)) entries (record host { learned = m }))) (same_test n e.0 ∙ other)
            ∙ ap (λ rest. e ∷ rest) (heard m entries host rising.1 later)
            ∙ sym (ap (λ b. (if b then (e.0, record e.1 { learned = m }) else e) ∷ heard_at n m entries) other)
      ]

  -- ---- the host at the place

  -- what is at the place is the host that a look-up finds
  abbrev pub IsOnly : HostRec → List Entry → Type 0
  IsOnly host = AllByRecursion (λ (e : Entry). (e.0 == n) ≡ true → e.1 ≡ host)

  pub only : (entries : List Entry) (host : HostRec) → AreRising entries → lookup (is_at (nat_cmp n)) entries ≡ Some host → IsOnly host entries
  only [] host rising found = tt
  only (e ∷ entries) host rising found =
      elim (cases_Bool (e.0 == n)) [
        | inl same ↦ let here : ◌≡◌ {A = Option HostRec} (Some e.1) (Some host) = sym (ap (λ b. cond b (Some e.1) (lookup (is_at (nat_cmp n)) entries)) (same_test n e.0 ∙ same)) ∙ found in
            let is : e.1 ≡ host = cc in
            ((λ _. is), all_map (λ (f : Entry). n < f.0) (λ (f : Entry). (f.0 == n) ≡ true → f.1 ≡ host) (λ f above at. absurd (let at_n : f.0 ≡ n = eqb-true f.0 n at in let less : n < f.0 = above in omega (arith, at_n, less))) entries (behind e entries (eqb-true e.0 n same) rising.0))
        | inr other ↦ let later : lookup (is_at (nat_cmp n)) entries ≡ Some host = sym (ap (λ b. cond b (Some e.1) (lookup (is_at (nat_cmp n)) entries)) (same_test n e.0 ∙ other)) ∙ found in
            ((λ same. absurd (false≢true (sym other ∙ same))), only entries host rising.1 later)
      ]

  -- a sum has the host's part less
  pub sum_off : (f : HostRec → ℕ) (entries : List Entry) (host : HostRec) → AreRising entries → lookup (is_at (nat_cmp n)) entries ≡ Some host → sum_by (λ (e : Entry). f e.1) (off_place n entries) + f host ≡ sum_by (λ (e : Entry). f e.1) entries
  sum_off f [] host rising found = absurd (cc)
  sum_off f (e ∷ entries) host rising found =
      let total : List Entry → ℕ = sum_by (λ (e : Entry). f e.1) in
      elim (cases_Bool (e.0 == n)) [
        | inl same ↦ let here : ◌≡◌ {A = Option HostRec} (Some e.1) (Some host) = sym (ap (λ b. cond b (Some e.1) (lookup (is_at (nat_cmp n)) entries)) (same_test n e.0 ∙ same)) ∙ found in
            let is : e.1 ≡ host = cc in
            let rest : total (off_place n (e ∷ entries)) ≡ total entries = ap (λ b. total (cond (not b) (e ∷ off_place n entries) (off_place n entries))) same ∙ ap total (none_off entries (behind e entries (eqb-true e.0 n same) rising.0)) in
            let part : f e.1 ≡ f host = ap f is in
            omega (arith, rest, part, sum_by-cons (λ (e : Entry). f e.1) e entries)
        | inr other ↦ let later : lookup (is_at (nat_cmp n)) entries ≡ Some host = sym (ap (λ b. cond b (Some e.1) (lookup (is_at (nat_cmp n)) entries)) (same_test n e.0 ∙ other)) ∙ found in
            let rest : total (off_place n (e ∷ entries)) ≡ total (e ∷ off_place n entries) = ap (λ b. total (cond (not b) (e ∷ off_place n entries) (off_place n entries))) other in
            omega (arith, rest, sum_off f entries host rising.1 later, sum_by-cons (λ (e : Entry). f e.1) e entries, sum_by-cons (λ (e : Entry). f e.1) e (off_place n entries))
      ]

  -- ---- a part by a test

  pub filter_off : (test : Entry → Bool) (entries : List Entry) → filter test (off_place n entries) ≡ off_place n (filter test entries)
  filter_off test [] = refl
  filter_off test (e ∷ entries) =
      let F = filter test (off_place n entries) in
      elim (cases_Bool (e.0 == n)) [
        | inl same ↦ ap (λ b. filter test (cond (not b) (e ∷ off_place n entries) (off_place n entries))) same ∙ filter_off test entries
            ∙ sym (elim (cases_Bool (test e)) [
              | inl passes ↦ ap (λ b. off_place n (cond b (e ∷ filter test entries) (filter test entries))) passes ∙ ap (λ b. cond (not b) (e ∷ off_place n (filter test entries)) (off_place n (filter test entries))) same
              | inr fails ↦ ap (λ b. off_place n (cond b (e ∷ filter test entries) (filter test entries))) fails
            ])
        | inr other ↦ ap (λ b. filter test (cond (not b) (e ∷ off_place n entries) (off_place n entries))) other
            ∙ elim (cases_Bool (test e)) [
              | inl passes ↦ ap (λ b. cond b (e ∷ F) F) passes ∙ ap (λ rest. e ∷ rest) (filter_off test entries)
                  ∙ sym (ap (λ b. off_place n (cond b (e ∷ filter test entries) (filter test entries))) passes ∙ ap (λ b. cond (not b) (e ∷ off_place n (filter test entries)) (off_place n (filter test entries))) other)
              | inr fails ↦ ap (λ b. cond b (e ∷ F) F) fails ∙ filter_off test entries ∙ sym (ap (λ b. off_place n (cond b (e ∷ filter test entries) (filter test entries))) fails)
            ]
      ]

  -- where the test doesn't take what is at the place
  pub off_other : (entries : List Entry) → AllByRecursion (λ (e : Entry). (e.0 == n) ≡ false) entries → off_place n entries ≡ entries
  off_other [] all = refl
  off_other (e ∷ entries) all = ap (λ b. cond (not b) (e ∷ off_place n entries) (off_place n entries)) all.0 ∙ ap (λ rest. e ∷ rest) (off_other entries all.1)

  pub heard_other : (m : Moment) (entries : List Entry) → AllByRecursion (λ (e : Entry). (e.0 == n) ≡ false) entries → heard_at n m entries ≡ entries
  heard_other m [] all = refl
  heard_other m (e ∷ entries) all = ap (λ b. (if b then (e.0, record e.1 { learned = m }) else e) ∷ heard_at n m entries) all.0 ∙ ap (λ rest. e ∷ rest) (heard_other m entries all.1)

  pub not_there : (test : Entry → Bool) (entries : List Entry) (host : HostRec) → IsOnly host entries → test (n, host) ≡ false → AllByRecursion (λ (e : Entry). (e.0 == n) ≡ false) (filter test entries)
  not_there test [] host is fails = tt
  not_there test (e ∷ entries) host is fails =
      elim (cases_Bool (test e)) [
        | inl passes ↦ subst (λ b. AllByRecursion (λ (e : Entry). (e.0 == n) ≡ false) (cond b (e ∷ filter test entries) (filter test entries))) (sym passes) (
          (elim (cases_Bool (e.0 == n)) [
            | inl same ↦ absurd (false≢true (sym (ap (λ h. test (e.0, h)) (is.0 same) ∙ ap (λ k. test (k, host)) (eqb-true e.0 n same) ∙ fails) ∙ passes))
            | inr other ↦ other
          ]),
          not_there test entries host is.1 fails,
        )
        | inr skips ↦ subst (λ b. AllByRecursion (λ (e : Entry). (e.0 == n) ≡ false) (cond b (e ∷ filter test entries) (filter test entries))) (sym skips) (not_there test entries host is.1 fails)
      ]

  -- ---- another moment leaves the rest

  same_place : (m : Moment) (e : Entry) → (if e.0 == n then (e.0, record e.1 { learned = m }) else e).0 ≡ e.0
  same_place m e = elim (e.0 == n) as (λ b. (if b then (e.0, record e.1 { learned = m }) else e).0 ≡ e.0) [ true ↦ refl | false ↦ refl ]

  pub heard_all : (m : Moment) (P : ℕ → Type 0) (entries : List Entry) → AllByRecursion (λ (e : Entry). P e.0) entries → AllByRecursion (λ (e : Entry). P e.0) (heard_at n m entries)
  heard_all m P [] all = tt
  heard_all m P (e ∷ entries) all = (subst P (sym (same_place m e)) all.0, heard_all m P entries all.1)

  pub heard_rising : (m : Moment) (entries : List Entry) → AreRising entries → AreRising (heard_at n m entries)
  heard_rising m [] rising = tt
  heard_rising m (e ∷ entries) rising = (subst (λ k. AllByRecursion (λ (f : Entry). k < f.0) (heard_at n m entries)) (sym (same_place m e)) (heard_all m (λ k. e.0 < k) entries rising.0), heard_rising m entries rising.1)

  pub sum_heard : (m : Moment) (f : HostRec → ℕ) → ((h : HostRec) → f (record h { learned = m }) ≡ f h) → (entries : List Entry) → sum_by (λ (e : Entry). f e.1) (heard_at n m entries) ≡ sum_by (λ (e : Entry). f e.1) entries
  sum_heard m f same [] = refl
  sum_heard m f same (e ∷ entries) =
      let g : Entry → ℕ = λ e. f e.1 in
      let here : f (if e.0 == n then (e.0, record e.1 { learned = m }) else e).1 ≡ f e.1 = elim (e.0 == n) as (λ b. f (if b then (e.0, record e.1 { learned = m }) else e).1 ≡ f e.1) [ true ↦ same e.1 | false ↦ refl ] in
      sum_by-cons (λ (e : Entry). f e.1) (if e.0 == n then (e.0, record e.1 { learned = m }) else e) (heard_at n m entries)
      ∙ ap (λ k. k + sum_by (λ (e : Entry). f e.1) (heard_at n m entries)) here ∙ ap (λ k. f e.1 + k) (sum_heard m f same entries) ∙ sym (sum_by-cons (λ (e : Entry). f e.1) e entries)

  pub filter_heard : (m : Moment) (test : Entry → Bool) → ((e : Entry) → test (e.0, record e.1 { learned = m }) ≡ test e) → (entries : List Entry) → filter test (heard_at n m entries) ≡ heard_at n m (filter test entries)
  filter_heard m test same [] = refl
  filter_heard m test same (e ∷ entries) =
      let new : Entry = if e.0 == n then (e.0, record e.1 { learned = m }) else e in
      let as_before : test (if e.0 == n then (e.0, record e.1 { learned = m }) else e) ≡ test e = elim (e.0 == n) as (λ b. test (if b then (e.0, record e.1 { learned = m }) else e) ≡ test e) [ true ↦ same e | false ↦ refl ] in
      elim (cases_Bool (test e)) [
        | inl passes ↦ ap (λ b. cond b (new ∷ filter test (heard_at n m entries)) (filter test (heard_at n m entries))) (as_before ∙ passes) ∙ ap (λ rest. new ∷ rest) (filter_heard m test same entries)
            ∙ sym (ap (λ b. heard_at n m (cond b (e ∷ filter test entries) (filter test entries))) passes)
        | inr fails ↦ ap (λ b. cond b (new ∷ filter test (heard_at n m entries)) (filter test (heard_at n m entries))) (as_before ∙ fails) ∙ filter_heard m test same entries
            ∙ sym (ap (λ b. heard_at n m (cond b (e ∷ filter test entries) (filter test entries))) fails)
      ]

  -- ---- where nothing is there

  pub none_there : (entries : List Entry) → lookup (is_at (nat_cmp n)) entries ≡ None → AllByRecursion (λ (e : Entry). (e.0 == n) ≡ false) entries
  none_there entries none = all_map (λ (e : Entry). is_at (nat_cmp n) e.0 ≡ false) (λ (e : Entry). (e.0 == n) ≡ false) (λ e off. sym (same_test n e.0) ∙ off) entries (none_passes_from_lookup (is_at (nat_cmp n)) entries none)

  below_other : (entries : List Entry) → AllByRecursion (λ (e : Entry). e.0 < n) entries → AllByRecursion (λ (e : Entry). (e.0 == n) ≡ false) entries
  below_other = all_map (λ (e : Entry). e.0 < n) (λ (e : Entry). (e.0 == n) ≡ false) (λ e less. let is : e.0 < n = less in eqb-false e.0 n (λ same. omega arith))

  -- one more and one fewer is what was
  pub undone : (entries : List Entry) (host : HostRec) → AllByRecursion (λ (e : Entry). e.0 < n) entries → off_place n (entries ++ (n, host) ∷ []) ≡ entries
  undone entries host below =
      filter-append (λ (e : Entry). not (e.0 == n)) entries ((n, host) ∷ []) ∙ ap (λ es. es ++ off_place n ((n, host) ∷ [])) (off_other entries (below_other entries below))
      ∙ ap (λ b. entries ++ cond (not b) ((n, host) ∷ []) []) (eq-eqb n n refl) ∙ append-nil entries
