-- The first neighbour that is due, by its place.
use Rattle.std.proofs.Common.{◌≡◌, ℕ, zero, suc, ◌<◌, ◌≤◌, ◌||◌, Bool, true, false, cond, Some, None, List, [], ◌∷◌, length, get_or, set, find, remove, take, nat_lt, is_some, if◌then◌else◌, refl, inl, inr, sym, ap, ◌∙◌, arith, subst}
use Rattle.std.specs.List.{list_any, position, position_or_len}
use Rattle.std.specs.Option.{option_map, option_map_or}
use Rattle.std.proofs.lemmas.Bool.{cases_Bool, ltb-false, ltb-true}
use Rattle.std.proofs.lemmas.List.Sums.{fails_before_first, passes_at_first}
use Rattle.conf_types.specs.declared.state.NeighRec.{NeighRec}
use Rattle.conf_types.specs.Configuration.{Configuration}
use Rattle.neighbour_resolve.specs.declared.neighbour.Due.TheVariants.{Ask, Gone}
use Rattle.neighbour_resolve.specs.Due.{after_due, is_due, next, due_said, said_of}

-- the test passes at this place and at none before it
record IsFirst (test : NeighRec → Bool) (ns : List NeighRec) (i : ℕ) (n : NeighRec) : Type 0 where
  within : i < length ns
  before : (k : ℕ) → k < i → test (get_or ns k n) ≡ false
  here : test (get_or ns i n) ≡ true

module _ (test : NeighRec → Bool) where
  at_place : (ns : List NeighRec) (i : ℕ) → Some i ≡ position test ns → i ≡ position_or_len test ns
  at_place ns i is =
      elim (cases_Bool (nat_lt (position_or_len test ns) (length ns))) [
        | inl here ↦ let e = rw here at is in cc
        | inr past ↦ let e = rw past at is in absurd (cc)
      ]

  is_first : (ns : List NeighRec) (i : ℕ) (n : NeighRec) → Some i ≡ position test ns → i < length ns → IsFirst test ns i n
  is_first ns i n is within =
      let at = at_place ns i is in
      record {
        within = within;
        before = λ k lt. fails_before_first test ns k n (subst (λ j. k < j) at lt);
        here = subst (λ j. test (get_or ns j n) ≡ true) (sym at) (passes_at_first test ns n (subst (λ j. j < length ns) at within));
      }

  first_more : (x : NeighRec) (ns : List NeighRec) (i : ℕ) (n : NeighRec) → IsFirst test (x ∷ ns) (suc i) n → IsFirst test ns i n
  first_more x ns i n first = record { within = omega (arith, first.within); before = λ k lt. first.before (suc k) (omega arith); here = first.here }

  found_at : (ns : List NeighRec) (i : ℕ) (n : NeighRec) → IsFirst test ns i n → find test ns ≡ Some (get_or ns i n)
  found_at [] i n first = absurd (omega (arith, first.within))
  found_at (x ∷ ns) zero n first = ap (λ b. cond b (Some x) (find test ns)) first.here
  found_at (x ∷ ns) (suc i) n first = ap (λ b. cond b (Some x) (find test ns)) (first.before 0 (omega arith)) ∙ found_at ns i n (first_more x ns i n first)

  past_all : (ns : List NeighRec) → None ≡ position test ns → length ns ≤ position_or_len test ns
  past_all ns is =
      elim (cases_Bool (nat_lt (position_or_len test ns) (length ns))) [
        | inl here ↦ let e = rw here at is in absurd (cc)
        | inr past ↦ ltb-false (position_or_len test ns) (length ns) past
      ]

  abbrev AllFail : List NeighRec → Type 0
  AllFail ns = (k : ℕ) (d : NeighRec) → k < length ns → test (get_or ns k d) ≡ false

  all_fail : (ns : List NeighRec) → None ≡ position test ns → AllFail ns
  all_fail ns is k d lt = fails_before_first test ns k d (omega (arith, past_all ns is))

  none_found : (ns : List NeighRec) → AllFail ns → find test ns ≡ None
  none_found [] fail = refl
  none_found (x ∷ ns) fail = ap (λ b. cond b (Some x) (find test ns)) (fail 0 x (omega arith)) ∙ none_found ns (λ k d lt. fail (suc k) d (omega arith))

  -- what is found, by its place
  pub found : (ns : List NeighRec) (i : ℕ) (n : NeighRec) → Some i ≡ position test ns → i < length ns → n ≡ get_or ns i n → find test ns ≡ Some n
  found ns i n is within at = found_at ns i n (is_first ns i n is within) ∙ ap Some (sym at)

  pub not_found : (ns : List NeighRec) → None ≡ position test ns → find test ns ≡ None
  not_found ns is = none_found ns (all_fail ns is)

-- ---- by going on from where none before is

neither : (a b : Bool) → (a || b) ≡ false → (a ≡ false) × (b ≡ false)
neither false b e = (refl, e)
neither true b e = absurd (cc)

both_ways : (b : Bool) → b ≡ true → b ≡ false → ⊥
both_ways b passes fails = let e : true ≡ false = sym passes ∙ fails in cc

module _ (test : NeighRec → Bool) where
  fails_in : (ns : List NeighRec) (i k : ℕ) (d : NeighRec) → list_any test (take i ns) ≡ false → k < i → k < length ns → test (get_or ns k d) ≡ false
  fails_in [] i k d none lt within = absurd (omega arith)
  fails_in (x ∷ ns) zero k d none lt within = absurd (omega arith)
  fails_in (x ∷ ns) (suc i) zero d none lt within = (neither (test x) (list_any test (take i ns)) none).0
  fails_in (x ∷ ns) (suc i) (suc k) d none lt within = fails_in ns i k d (neither (test x) (list_any test (take i ns)) none).1 (omega arith) (omega arith)

  -- the one at the place, where none before it passes
  place_is : (ns : List NeighRec) (i q : ℕ) (d : NeighRec) → q ≡ position_or_len test ns → q < length ns → list_any test (take i ns) ≡ false → i < length ns → test (get_or ns i d) ≡ true → i ≡ q
  place_is ns i q d is inside none lt here =
      elim (cases_Bool (nat_lt q i)) [
        | inl below ↦ absurd (both_ways (test (get_or ns q d)) (subst (λ j. test (get_or ns j d) ≡ true) (sym is) (passes_at_first test ns d (subst (λ j. j < length ns) is inside))) (fails_in ns i q d none (ltb-true q i below) inside))
        | inr not_below ↦
            elim (cases_Bool (nat_lt i q)) [
              | inl above ↦ absurd (both_ways (test (get_or ns i d)) here (fails_before_first test ns i d (subst (λ j. i < j) is (ltb-true i q above))))
              | inr not_above ↦ omega (arith, ltb-false q i not_below, ltb-false i q not_above)
            ]
      ]

  pub found_first : (ns : List NeighRec) (i : ℕ) (d : NeighRec) → list_any test (take i ns) ≡ false → i < length ns → test (get_or ns i d) ≡ true → Some i ≡ position test ns
  found_first ns i d none lt here =
      elim (cases_Bool (nat_lt (position_or_len test ns) (length ns))) [
        | inl inside ↦
            ap (λ j. Some j) (place_is ns i (position_or_len test ns) d refl (ltb-true (position_or_len test ns) (length ns) inside) none lt here)
            ∙ sym (ap (λ b. cond b (Some (position_or_len test ns)) None) inside)
        | inr past ↦ absurd (both_ways (test (get_or ns i d)) here (fails_before_first test ns i d (omega (arith, lt, ltb-false (position_or_len test ns) (length ns) past))))
      ]

  -- none in the list
  pub none_first : (ns : List NeighRec) (i : ℕ) → length ns ≤ i → list_any test (take i ns) ≡ false → None ≡ position test ns
  none_first [] i past none = refl
  none_first (x ∷ ns) i past none =
      elim (cases_Bool (nat_lt (position_or_len test (x ∷ ns)) (length (x ∷ ns)))) [
        | inl inside ↦
            let at = position_or_len test (x ∷ ns) in
            let lt = ltb-true at (length (x ∷ ns)) inside in
            absurd (both_ways (test (get_or (x ∷ ns) at x)) (passes_at_first test (x ∷ ns) x lt) (fails_in (x ∷ ns) i at x none (omega (arith, lt, past)) lt))
        | inr out ↦ sym (ap (λ b. cond b (Some (position_or_len test (x ∷ ns))) None) out)
      ]

-- taking one out leaves those before it
pub take-remove : (ns : List NeighRec) (i : ℕ) → i < length ns → take i (remove ns i) ≡ take i ns
take-remove [] i lt = absurd (omega arith)
take-remove (x ∷ ns) zero lt = refl
take-remove (x ∷ ns) (suc i) lt = ap (λ rest. x ∷ rest) (take-remove ns i (omega arith))

-- ---- what is left

module _ (conf : Configuration) (moment : ℕ) where
  at_first : (x : NeighRec) (more : List NeighRec) → is_due moment x ≡ true → after_due conf moment (x ∷ more) ≡ option_map_or (λ m. m ∷ more) (next conf moment x) more
  at_first x more is = ap (λ b. cond b (option_map_or (λ m. m ∷ more) (next conf moment x) more) (x ∷ after_due conf moment more)) is

  behind_first : (x : NeighRec) (more : List NeighRec) → is_due moment x ≡ false → after_due conf moment (x ∷ more) ≡ x ∷ after_due conf moment more
  behind_first x more is = ap (λ b. cond b (option_map_or (λ m. m ∷ more) (next conf moment x) more) (x ∷ after_due conf moment more)) is

  changed_at : (ns : List NeighRec) (i : ℕ) (n m : NeighRec) → IsFirst (is_due moment) ns i n → next conf moment (get_or ns i n) ≡ Some m → after_due conf moment ns ≡ set ns i m
  changed_at [] i n m first is = absurd (omega (arith, first.within))
  changed_at (x ∷ more) zero n m first is = at_first x more first.here ∙ ap (λ o. option_map_or (λ y. y ∷ more) o more) is
  changed_at (x ∷ more) (suc i) n m first is = behind_first x more (first.before 0 (omega arith)) ∙ ap (λ rest. x ∷ rest) (changed_at more i n m (first_more (is_due moment) x more i n first) is)

  left_at : (ns : List NeighRec) (i : ℕ) (n : NeighRec) → IsFirst (is_due moment) ns i n → next conf moment (get_or ns i n) ≡ None → after_due conf moment ns ≡ remove ns i
  left_at [] i n first is = absurd (omega (arith, first.within))
  left_at (x ∷ more) zero n first is = at_first x more first.here ∙ ap (λ o. option_map_or (λ y. y ∷ more) o more) is
  left_at (x ∷ more) (suc i) n first is = behind_first x more (first.before 0 (omega arith)) ∙ ap (λ rest. x ∷ rest) (left_at more i n (first_more (is_due moment) x more i n first) is)

  unchanged : (ns : List NeighRec) → AllFail (is_due moment) ns → after_due conf moment ns ≡ ns
  unchanged [] fail = refl
  unchanged (x ∷ more) fail = behind_first x more (fail 0 x (omega arith)) ∙ ap (λ rest. x ∷ rest) (unchanged more (λ k d lt. fail (suc k) d (omega arith)))

  -- ---- as the code finds it

  module _ (ns : List NeighRec) (i : ℕ) (n : NeighRec) (is : Some i ≡ position (is_due moment) ns) (within : i < length ns) (at : n ≡ get_or ns i n) where
    said_at : due_said conf moment ns ≡ Some (said_of conf moment n)
    said_at = ap (option_map (said_of conf moment)) (found (is_due moment) ns i n is within at)

    pub said_ask : (m : NeighRec) → Some m ≡ next conf moment n → Some (Ask n.group n.vid n.ip) ≡ due_said conf moment ns
    said_ask m asked = ap (λ o. Some (if is_some o then Ask n.group n.vid n.ip else Gone n.group n.vid n.ip)) asked ∙ sym said_at

    pub said_gone : None ≡ next conf moment n → Some (Gone n.group n.vid n.ip) ≡ due_said conf moment ns
    said_gone gone = ap (λ o. Some (if is_some o then Ask n.group n.vid n.ip else Gone n.group n.vid n.ip)) gone ∙ sym said_at

    pub changed : (m : NeighRec) → Some m ≡ next conf moment n → set ns i m ≡ after_due conf moment ns
    changed m asked = sym (changed_at ns i n m (is_first (is_due moment) ns i n is within) (ap (next conf moment) (sym at) ∙ sym asked))

    pub left : None ≡ next conf moment n → remove ns i ≡ after_due conf moment ns
    left gone = sym (left_at ns i n (is_first (is_due moment) ns i n is within) (ap (next conf moment) (sym at) ∙ sym gone))

  pub none_left : (ns : List NeighRec) → None ≡ position (is_due moment) ns → after_due conf moment ns ≡ ns
  none_left ns is = unchanged ns (all_fail (is_due moment) ns is)
