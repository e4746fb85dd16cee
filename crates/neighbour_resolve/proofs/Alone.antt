-- What is said of a neighbour in a run, as if it were alone.
use Rattle.std.proofs.Common.{◌≡◌, ℕ, zero, suc, ◌+◌, ◌-◌, ◌^◌, ◌<◌, ◌≤◌, ◌==◌, ◌&&◌, Bool, true, false, cond, not, Option, Some, None, List, [], ◌∷◌, filter, find, min, nat_lt, nat_le, is_some, count_by, inl, inr, refl, sym, ap, ◌∙◌, arith, subst, IfSome, if◌then◌else◌}
use Rattle.std.specs.List.{AllByRecursion}
use Rattle.std.specs.Option.{option_map, option_map_or}
use Rattle.std.proofs.lemmas.Bool.{cases_Bool}
use Rattle.std.proofs.lemmas.Bool.Decides.{nat_tests}
use Rattle.std.proofs.lemmas.List.Sums.{sum_by-cons}
use Rattle.conf_types.proofs.Found.{all_found}
use Rattle.conf_types.specs.declared.state.NeighRec.{NeighRec}
use Rattle.conf_types.specs.Configuration.{Configuration}
use Rattle.conf_types.specs.Lists.{EachBefore}
use Rattle.neighbour_resolve.specs.declared.neighbour.Due.{Due}
use Rattle.neighbour_resolve.specs.declared.neighbour.Due.TheVariants.{Ask, Gone}
use Rattle.neighbour_resolve.specs.Due.{after_due, asked, asked_on, is_due, is_gateway, last_wait, most_tries, next, due_said, said_of, wait_after}
use Rattle.neighbour_resolve.specs.Runs.{Settles, is_about}
use Rattle.neighbour_resolve.specs.Table.{is_same}
use Rattle.neighbour_resolve.proofs.Keys.{AreApart, due_some, same_back, same_on, same_true, some_keys}

-- each wait is some time
pub some_wait : (tries : ℕ) → 0 < wait_after tries
some_wait zero = omega arith
some_wait (suc zero) = omega arith
some_wait (suc (suc zero)) = omega arith
some_wait (suc (suc (suc zero))) = omega arith
some_wait (suc (suc (suc (suc zero)))) = omega arith
some_wait (suc (suc (suc (suc (suc zero))))) = omega arith
some_wait (suc (suc (suc (suc (suc (suc tries)))))) = omega arith

some_same : {A : Type 0} {x y : A} → Some x ≡ Some y → x ≡ y
some_same e = cc

if_some : {A : Type 0} (o : Option A) (P : A → Type 0) → IfSome o P → (x : A) → o ≡ Some x → P x
if_some None P holds x is = absurd (cc)
if_some (Some y) P holds x is = subst P (some_same is) holds

found_passes : {A : Type 0} (p : A → Bool) (xs : List A) (x : A) → find p xs ≡ Some x → p x ≡ true
found_passes p [] x is = absurd (cc)
found_passes p (y ∷ ys) x is =
    elim (cases_Bool (p y)) [
      | inl passes ↦ subst (λ z. p z ≡ true) (some_same (sym (ap (λ b. cond b (Some y) (find p ys)) passes) ∙ is)) passes
      | inr fails ↦ found_passes p ys x (sym (ap (λ b. cond b (Some y) (find p ys)) fails) ∙ is)
    ]

-- what is said of the one at a moment, and what becomes of it
abbrev pub here : Configuration → ℕ → Option NeighRec → List Due
here conf moment None = []
here conf moment (Some m) = if is_due moment m then said_of conf moment m ∷ [] else []

abbrev pub then_is : Configuration → ℕ → Option NeighRec → Option NeighRec
then_is conf moment None = None
then_is conf moment (Some m) = if is_due moment m then next conf moment m else Some m

module _ (conf : Configuration) (moment : ℕ) where
  -- ---- what comes next

  pub by_next : (n : NeighRec) (P : Option NeighRec → Type 0) → P (Some (asked moment n)) → P (Some (asked_on moment n)) → P None → P (next conf moment n)
  by_next n P one on none =
      elim (nat_lt n.tries most_tries) as (λ b. P (if b then Some (asked moment n) else if is_gateway conf n then Some (asked_on moment n) else None)) [
        | true ↦ one
        | false ↦ elim (is_gateway conf n) as (λ b. P (if b then Some (asked_on moment n) else None)) [ true ↦ on | false ↦ none ]
      ]

  -- a wait isn't over at its moment
  waiting : (wait : ℕ) → 0 < wait → (nat_le (min (moment + wait) (2 ^ 64 - 1)) moment && not (min (moment + wait) (2 ^ 64 - 1) == 2 ^ 64 - 1)) ≡ false
  waiting wait some = grind (arith, nat_tests)

  -- ---- the first that is due, and the one with a key

  due_first : (x : NeighRec) (more : List NeighRec) → is_due moment x ≡ true → after_due conf moment (x ∷ more) ≡ option_map_or (λ m. m ∷ more) (next conf moment x) more
  due_first x more is = ap (λ b. cond b (option_map_or (λ m. m ∷ more) (next conf moment x) more) (x ∷ after_due conf moment more)) is

  due_later : (x : NeighRec) (more : List NeighRec) → is_due moment x ≡ false → after_due conf moment (x ∷ more) ≡ x ∷ after_due conf moment more
  due_later x more is = ap (λ b. cond b (option_map_or (λ m. m ∷ more) (next conf moment x) more) (x ∷ after_due conf moment more)) is

  -- ---- one that was asked isn't due at once

  next_waits : (n : NeighRec) → IfSome (next conf moment n) (λ m. is_due moment m ≡ false)
  next_waits n =
      by_next n (λ o. IfSome o (λ m. is_due moment m ≡ false)) (waiting (wait_after n.tries) (some_wait n.tries)) (waiting last_wait (omega arith)) tt

  -- ---- each answer leaves one fewer that is due

  count_more : (x : NeighRec) (more : List NeighRec) → count_by (is_due moment) (x ∷ more) ≡ cond (is_due moment x) 1 0 + count_by (is_due moment) more
  count_more x more = sum_by-cons (λ n. cond (is_due moment n) 1 0) x more

  count_next : (n : NeighRec) (more : List NeighRec) → count_by (is_due moment) (option_map_or (λ m. m ∷ more) (next conf moment n) more) ≡ count_by (is_due moment) more
  count_next n more = one (next conf moment n) (next_waits n) where
    one : (o : Option NeighRec) → IfSome o (λ m. is_due moment m ≡ false) → count_by (is_due moment) (option_map_or (λ m. m ∷ more) o more) ≡ count_by (is_due moment) more
    one (Some m) off = let none : ◌≡◌ {A = ℕ} (cond (is_due moment m) 1 0) 0 = ap (λ b. cond b 1 0) off in omega (arith, none, count_more m more)
    one None off = refl

  pub one_fewer : (ns : List NeighRec) (d : NeighRec) → find (is_due moment) ns ≡ Some d → count_by (is_due moment) (after_due conf moment ns) + 1 ≡ count_by (is_due moment) ns
  one_fewer [] d is = absurd (cc)
  one_fewer (x ∷ more) d is =
      elim (cases_Bool (is_due moment x)) [
        | inl due ↦
            let one : ◌≡◌ {A = ℕ} (cond (is_due moment x) 1 0) 1 = ap (λ b. cond b 1 0) due in
            omega (arith, one, count_more x more, count_next x more, ap (count_by (is_due moment)) (due_first x more due))
        | inr off ↦
            let none : ◌≡◌ {A = ℕ} (cond (is_due moment x) 1 0) 0 = ap (λ b. cond b 1 0) off in
            let later : find (is_due moment) more ≡ Some d = sym (ap (λ b. cond b (Some x) (find (is_due moment) more)) off) ∙ is in
            omega (arith, none, count_more x more, count_more x (after_due conf moment more), one_fewer more d later, ap (count_by (is_due moment)) (due_later x more off))
      ]

  -- so a settling ends
  pub ends : (fuel : ℕ) (ns : List NeighRec) (o : Option NeighRec) → find (is_due moment) ns ≡ o → count_by (is_due moment) ns ≤ fuel → (answers : List Due) × (after : List NeighRec) × Settles conf moment ns answers after
  ends fuel ns None is within = ([], ns, (ap (option_map (said_of conf moment)) is, refl))
  ends zero ns (Some d) is within = absurd (omega (arith, one_fewer ns d is))
  ends (suc fuel) ns (Some d) is within =
      let next = after_due conf moment ns in
      let rest = ends fuel next (find (is_due moment) next) refl (omega (arith, one_fewer ns d is)) in
      (said_of conf moment d ∷ rest.0, rest.1, (ap (option_map (said_of conf moment)) is, rest.2))

  -- ---- the one with a key

  module _ (n : NeighRec) where
    abbrev key_find : List NeighRec → Option NeighRec
    key_find ns = find (is_same n) ns

    about_said : (d : NeighRec) → is_about n (said_of conf moment d) ≡ is_same n d
    about_said d = elim (is_some (next conf moment d)) as (λ b. is_about n (if b then Ask d.group d.vid d.ip else Gone d.group d.vid d.ip) ≡ is_same n d) [ true ↦ refl | false ↦ refl ]

    find_first : (x : NeighRec) (more : List NeighRec) → is_same n x ≡ true → key_find (x ∷ more) ≡ Some x
    find_first x more is = ap (λ b. cond b (Some x) (key_find more)) is

    find_later : (x : NeighRec) (more : List NeighRec) → is_same n x ≡ false → key_find (x ∷ more) ≡ key_find more
    find_later x more is = ap (λ b. cond b (Some x) (key_find more)) is

    -- it stands once
    none_more : (x : NeighRec) (more : List NeighRec) → is_same n x ≡ true → AllByRecursion (AreApart x) more → key_find more ≡ None
    none_more x [] is apart = refl
    none_more x (y ∷ more) is apart = find_later y more (other (is_same n y) refl) ∙ none_more x more is apart.1 where
      other : (b : Bool) → is_same n y ≡ b → is_same n y ≡ false
      other true same = absurd (apart.0 (same_on x n y (same_back n x (same_true n x is)) (same_true n y same)))
      other false off = off

    apart_due : (x : NeighRec) (more : List NeighRec) (d : NeighRec) → AllByRecursion (AreApart x) more → find (is_due moment) more ≡ Some d → is_same n d ≡ true → is_same n x ≡ false
    apart_due x more d apart is same = other (is_same n x) refl where
      other : (b : Bool) → is_same n x ≡ b → is_same n x ≡ false
      other true here = absurd (all_found (AreApart x) (is_due moment) more d apart is (same_on x n d (same_back n x (same_true n x here)) (same_true n d same)))
      other false off = off

    -- the first that is due is the one
    due_is : (ns : List NeighRec) (d : NeighRec) → EachBefore AreApart ns → find (is_due moment) ns ≡ Some d → is_same n d ≡ true → (key_find ns ≡ Some d) × (key_find (after_due conf moment ns) ≡ next conf moment d)
    due_is [] d apart is same = absurd (cc)
    due_is (x ∷ more) d apart is same =
        elim (cases_Bool (is_due moment x)) [
          | inl due ↦
              let here : x ≡ d = some_same (sym (ap (λ b. cond b (Some x) (find (is_due moment) more)) due) ∙ is) in
              let mine : is_same n x ≡ true = ap (is_same n) here ∙ same in
              let after : key_find (option_map_or (λ m. m ∷ more) (next conf moment x) more) ≡ next conf moment x =
              by_next x (λ o. key_find (option_map_or (λ m. m ∷ more) o more) ≡ o) (find_first (asked moment x) more mine) (find_first (asked_on moment x) more mine) (none_more x more mine apart.0) in
              (find_first x more mine ∙ ap Some here, ap key_find (due_first x more due) ∙ after ∙ ap (next conf moment) here)
          | inr off ↦
              let later : find (is_due moment) more ≡ Some d = sym (ap (λ b. cond b (Some x) (find (is_due moment) more)) off) ∙ is in
              let other : is_same n x ≡ false = apart_due x more d apart.0 later same in
              let rest = due_is more d apart.1 later same in
              (find_later x more other ∙ rest.0, ap key_find (due_later x more off) ∙ find_later x (after_due conf moment more) other ∙ rest.1)
        ]

    -- it is another
    due_other : (ns : List NeighRec) (d : NeighRec) → find (is_due moment) ns ≡ Some d → is_same n d ≡ false → key_find (after_due conf moment ns) ≡ key_find ns
    due_other [] d is other = refl
    due_other (x ∷ more) d is other =
        elim (cases_Bool (is_due moment x)) [
          | inl due ↦
              let here : x ≡ d = some_same (sym (ap (λ b. cond b (Some x) (find (is_due moment) more)) due) ∙ is) in
              let off : is_same n x ≡ false = ap (is_same n) here ∙ other in
              let after : key_find (option_map_or (λ m. m ∷ more) (next conf moment x) more) ≡ key_find more =
              by_next x (λ o. key_find (option_map_or (λ m. m ∷ more) o more) ≡ key_find more) (find_later (asked moment x) more off) (find_later (asked_on moment x) more off) refl in
              ap key_find (due_first x more due) ∙ after ∙ sym (find_later x more off)
          | inr off ↦
              let later : find (is_due moment) more ≡ Some d = sym (ap (λ b. cond b (Some x) (find (is_due moment) more)) off) ∙ is in
              ap key_find (due_later x more off) ∙ ap (λ o. cond (is_same n x) (Some x) o) (due_other more d later other)
        ]

    -- none is due, so it isn't
    not_due : (ns : List NeighRec) (m : NeighRec) → find (is_due moment) ns ≡ None → key_find ns ≡ Some m → is_due moment m ≡ false
    not_due [] m none is = absurd (cc)
    not_due (x ∷ more) m none is =
        elim (cases_Bool (is_due moment x)) [
          | inl due ↦ let e : Some x ≡ None = sym (ap (λ b. cond b (Some x) (find (is_due moment) more)) due) ∙ none in absurd (cc)
          | inr off ↦
              let later : find (is_due moment) more ≡ None = sym (ap (λ b. cond b (Some x) (find (is_due moment) more)) off) ∙ none in
              elim (cases_Bool (is_same n x)) [
                | inl mine ↦ let here : x ≡ m = some_same (sym (find_first x more mine) ∙ is) in subst (λ y. is_due moment y ≡ false) here off
                | inr other ↦ not_due more m later (sym (find_later x more other) ∙ is)
              ]
        ]

    -- ---- one moment

    rests : (o : Option NeighRec) → ((m : NeighRec) → o ≡ Some m → is_due moment m ≡ false) → (here conf moment o ≡ []) × (then_is conf moment o ≡ o)
    rests None off = (refl, refl)
    rests (Some m) off = (ap (λ b. if b then said_of conf moment m ∷ [] else []) (off m refl), ap (λ b. if b then next conf moment m else Some m) (off m refl))

    no_first : (o : Option NeighRec) → option_map (said_of conf moment) o ≡ None → o ≡ None
    no_first None is = refl
    no_first (Some d) is = absurd (cc)

    abbrev IsOne : List NeighRec → List Due → List NeighRec → Type 0
    IsOne before answers after = (filter (is_about n) answers ≡ here conf moment (key_find before)) × (key_find after ≡ then_is conf moment (key_find before)) × EachBefore AreApart after

    mine : (before : List NeighRec) (first : Due) (more : List Due) (after : List NeighRec) (d : NeighRec) → is_due moment d ≡ true → said_of conf moment d ≡ first → is_same n d ≡ true
        → (key_find before ≡ Some d) × (key_find (after_due conf moment before) ≡ next conf moment d) → IsOne (after_due conf moment before) more after → IsOne before (first ∷ more) after
    mine before first more after d due is same found rest =
        let about : is_about n first ≡ true = ap (is_about n) (sym is) ∙ about_said d ∙ same in
        let quiet = rests (next conf moment d) (if_some (next conf moment d) (λ m. is_due moment m ≡ false) (next_waits d)) in
        let none : filter (is_about n) more ≡ [] = rest.0 ∙ ap (here conf moment) found.1 ∙ quiet.0 in
        let said_here : here conf moment (key_find before) ≡ first ∷ [] = ap (here conf moment) found.0 ∙ ap (λ b. if b then said_of conf moment d ∷ [] else []) due ∙ ap (λ s. s ∷ []) is in
        let then_here : then_is conf moment (key_find before) ≡ next conf moment d = ap (then_is conf moment) found.0 ∙ ap (λ b. if b then next conf moment d else Some d) due in
        (ap (λ b. cond b (first ∷ filter (is_about n) more) (filter (is_about n) more)) about ∙ ap (λ l. first ∷ l) none ∙ sym said_here, rest.1 ∙ ap (then_is conf moment) found.1 ∙ quiet.1 ∙ sym then_here, rest.2)

    another : (before : List NeighRec) (first : Due) (more : List Due) (after : List NeighRec) (d : NeighRec) → said_of conf moment d ≡ first → is_same n d ≡ false
        → key_find (after_due conf moment before) ≡ key_find before → IsOne (after_due conf moment before) more after → IsOne before (first ∷ more) after
    another before first more after d is other found rest =
        let about : is_about n first ≡ false = ap (is_about n) (sym is) ∙ about_said d ∙ other in
        (ap (λ b. cond b (first ∷ filter (is_about n) more) (filter (is_about n) more)) about ∙ rest.0 ∙ ap (here conf moment) found, rest.1 ∙ ap (then_is conf moment) found, rest.2)

    settled_step : (before : List NeighRec) (first : Due) (more : List Due) (after : List NeighRec) → EachBefore AreApart before → (o : Option NeighRec) → find (is_due moment) before ≡ o → due_said conf moment before ≡ Some first
        → IsOne (after_due conf moment before) more after → IsOne before (first ∷ more) after
    settled_step before first more after apart None none says rest = let e : None ≡ Some first = sym (ap (option_map (said_of conf moment)) none) ∙ says in absurd (cc)
    settled_step before first more after apart (Some d) some says rest =
        let is : said_of conf moment d ≡ first = some_same (sym (ap (option_map (said_of conf moment)) some) ∙ says) in
        elim (cases_Bool (is_same n d)) [
          | inl same ↦ mine before first more after d (found_passes (is_due moment) before d some) is same (due_is before d apart some same) rest
          | inr other ↦ another before first more after d is other (due_other before d some other) rest
        ]

    pub settled : (before : List NeighRec) (answers : List Due) (after : List NeighRec) → EachBefore AreApart before → Settles conf moment before answers after
        → IsOne before answers after
    settled before [] after apart run =
        let none : find (is_due moment) before ≡ None = no_first (find (is_due moment) before) run.0 in
        let quiet = rests (key_find before) (λ m is. not_due before m none is) in
        (sym quiet.0, ap key_find run.1 ∙ sym quiet.1, subst (EachBefore AreApart) (sym run.1) apart)
    settled before (first ∷ more) after apart run =
        let next_list = after_due conf moment before in
        settled_step before first more after apart (find (is_due moment) before) refl run.0 (settled next_list more after (some_keys next_list before (due_some conf moment before) apart) run.1)
