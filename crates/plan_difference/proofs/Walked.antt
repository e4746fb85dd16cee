-- The difference, by the keys at which something is done.
use Rattle.std.proofs.Common.{◌≡◌, ℕ, zero, suc, ◌⊎◌, inl, inr, Bool, true, false, cond, List, [], ◌∷◌, ◌++◌, Option, Some, None, filter, refl, sym, ap, ◌∙◌, subst, true≢false, arith, append-nil, if◌then◌else◌}
use Rattle.std.specs.Prelude.{Contains}
use Rattle.std.specs.List.{AllByRecursion, find, flat_map}
use Rattle.std.specs.List.Sorted.{IsStrictlySortedBy}
use Rattle.std.specs.Option.{option_map_or}
use Rattle.std.specs.Cmp.{Equal-is}
use Rattle.std.specs.declared.cmp.Ordering.{Ordering}
use Rattle.std.specs.declared.cmp.Ordering.TheVariants.{Less, Equal, Greater}
use Rattle.std.specs.Ordering.{is_lt, is_eq, is_gt}
use Rattle.std.proofs.lemmas.List.Concat.{flat_map-append}
use Rattle.std.proofs.lemmas.List.Kept.{IsStrictlySortedBy-filter}
use Rattle.std.proofs.lemmas.Map.Keys.{sorted_head, sorted_tail}
use Rattle.std.proofs.lemmas.Option.{none-some}
use Rattle.of_match.specs.declared.entry.Key.{Key}
use Rattle.of_match.specs.declared.entry.Entry.{Entry}
use Rattle.of_match.specs.declared.entry.Command.{Command}
use Rattle.of_match.specs.declared.entry.Command.TheVariants.{Add, DeleteStrict}
use Rattle.of_match.specs.KeyOrder.{key_cmp}
use Rattle.of_match.specs.KeyLaws.{key_total, exact_keys}
use Rattle.of_match.specs.FlowTables.{IsInKeyOrder, entry_at, below, above}
use Rattle.of_match.specs.Same.{entry_same, entry_exact}
use Rattle.of_match.proofs.AfterOrder.{all_pass, less_from_test, greater_from_test}
use Rattle.plan_difference.specs.Difference.{deletes, has, difference, change_of, change_at, AreAllTold}
use Rattle.plan_difference.proofs.Order.{all_map, reversed, turned, kept_order, below_before, above_behind}
use Rattle.plan_difference.proofs.Leads.{same_key}
use Rattle.plan_difference.proofs.Needs.{no_cycle}

-- ---- members

of_cons : {A : Type 0} (x : A) (xs : List A) (y : A) → Contains (x ∷ xs) y → (x ≡ y) ⊎ Contains xs y
of_cons x xs y (zero, lt, is) = inl is
of_cons x xs y (suc k, lt, is) = inr (k, omega (arith, lt), is)

of_all : {A : Type 0} (P : A → Type 0) (xs : List A) → AllByRecursion P xs → (x : A) → Contains xs x → P x
of_all P [] all x (k, lt, is) = absurd (omega (arith, lt))
of_all P (y ∷ ys) all x (zero, lt, is) = subst P is all.0
of_all P (y ∷ ys) all x (suc k, lt, is) = of_all P ys all.1 x (k, omega (arith, lt), is)

all_by : {A : Type 0} (P : A → Type 0) (xs : List A) → ((x : A) → Contains xs x → P x) → AllByRecursion P xs
all_by P [] h = tt
all_by P (x ∷ xs) h = (h x (zero, omega arith, refl), all_by P xs (λ y (k, lt, is). h y (suc k, omega (arith, lt), is)))

in_kept : {A : Type 0} (p : A → Bool) (xs : List A) (x : A) → Contains xs x → p x ≡ true → Contains (filter p xs) x
in_kept p [] x (k, lt, is) passes = absurd (omega (arith, lt))
in_kept {A = A} p (y ∷ ys) x c passes = elim (of_cons y ys x c) [
  | inl same ↦ subst (λ (z : A). Contains (filter p (y ∷ ys)) z) same (rw (ap p same ∙ passes) (zero, omega arith, refl))
  | inr more ↦ kept (p y) (in_kept p ys x more passes)
]
  where
    kept : (b : Bool) → Contains (filter p ys) x → Contains (cond b (y ∷ filter p ys) (filter p ys)) x
    kept true (k, lt, is) = (suc k, omega (arith, lt), is)
    kept false here = here

flat_same : {A B : Type 0} (f g : A → List B) (xs : List A) → AllByRecursion (λ x. f x ≡ g x) xs → flat_map f xs ≡ flat_map g xs
flat_same f g [] all = refl
flat_same f g (x ∷ xs) all = λ i. all.0 i ++ flat_same f g xs all.1 i

-- ---- what is found

find_among : {A : Type 0} (test p : A → Bool) (xs : List A) → ((x : A) → test x ≡ true → p x ≡ true) → find test (filter p xs) ≡ find test xs
find_among test p [] h = refl
find_among test p (x ∷ xs) h = by (test x) (p x) refl refl (find_among test p xs h)
  where
    by : (a b : Bool) → test x ≡ a → p x ≡ b → find test (filter p xs) ≡ find test xs → find test (cond b (x ∷ filter p xs) (filter p xs)) ≡ cond a (Some x) (find test xs)
    by true true is kept more = ap (λ c. cond c (Some x) (find test (filter p xs))) is
    by true false is kept more = absurd (true≢false (sym (h x is) ∙ kept))
    by false true is kept more = ap (λ c. cond c (Some x) (find test (filter p xs))) is ∙ more
    by false false is kept more = more

find_nothing : {A : Type 0} (test : A → Bool) (xs : List A) → AllByRecursion (λ x. test x ≡ false) xs → find test xs ≡ None
find_nothing test [] all = refl
find_nothing test (x ∷ xs) all = ap (λ c. cond c (Some x) (find test xs)) all.0 ∙ find_nothing test xs all.1

own_key : (e : Entry) (es : List Entry) → entry_at (e ∷ es) e.key ≡ Some e
own_key e es = ap (λ (o : Ordering). cond (is_eq o) (Some e) (entry_at es e.key)) (same_key e.key)

other_key : (e : Entry) (es : List Entry) (k : Key) (o : Ordering) → key_cmp e.key k ≡ o → is_eq o ≡ false → entry_at (e ∷ es) k ≡ entry_at es k
other_key e es k o is other = ap (λ b. cond b (Some e) (entry_at es k)) (ap is_eq is ∙ other)

entry_of : (es : List Entry) → IsInKeyOrder es → (e : Entry) → Contains es e → entry_at es e.key ≡ Some e
entry_of [] order e (k, lt, is) = absurd (omega (arith, lt))
entry_of (f ∷ es) order e c = elim (of_cons f es e c) [
  | inl same ↦ subst (λ (x : Entry). entry_at (f ∷ es) x.key ≡ Some x) same (own_key f es)
  | inr more ↦ other_key f es e.key Less (of_all (λ g. key_cmp f.key g.key ≡ Less) es order.0 e more) refl ∙ entry_of es order.1 e more
]

-- before a key, and behind it
none_before : (k : Key) (es : List Entry) → AllByRecursion (λ e. key_cmp k e.key ≡ Less) es → entry_at es k ≡ None
none_before k es all = find_nothing (λ e. is_eq (key_cmp e.key k)) es (all_map (λ e less. ap is_eq (reversed k e.key less)) es all)

among_below : (k j : Key) (es : List Entry) → key_cmp j k ≡ Less → entry_at (below k es) j ≡ entry_at es j
among_below k j es less = find_among (λ e. is_eq (key_cmp e.key j)) (λ e. is_lt (key_cmp e.key k)) es (λ e is. ap is_lt (subst (λ (x : Key). key_cmp x k ≡ Less) (sym (exact_keys e.key j ((Equal-is (key_cmp e.key j)).0 is))) less))

among_above : (k j : Key) (es : List Entry) → key_cmp j k ≡ Greater → entry_at (above k es) j ≡ entry_at es j
among_above k j es greater = find_among (λ e. is_eq (key_cmp e.key j)) (λ e. is_gt (key_cmp e.key k)) es (λ e is. ap is_gt (subst (λ (x : Key). key_cmp x k ≡ Greater) (sym (exact_keys e.key j ((Equal-is (key_cmp e.key j)).0 is))) greater))

-- ---- keys that rise, cut at a key

abbrev Rises : List Key → Type 0
Rises ks = IsStrictlySortedBy key_cmp ks

module _ (k : Key) where
  abbrev lower : List Key → List Key
  lower ks = filter (λ j. is_lt (key_cmp j k)) ks

  abbrev equal : List Key → List Key
  equal ks = filter (λ j. is_eq (key_cmp j k)) ks

  abbrev higher : List Key → List Key
  higher ks = filter (λ j. is_gt (key_cmp j k)) ks

  record AreHigher (ks : List Key) : Type 0 where
    no_lower : lower ks ≡ []
    no_equal : equal ks ≡ []
    all_higher : higher ks ≡ ks

  all_are : (ks : List Key) → AllByRecursion (λ j. key_cmp k j ≡ Less) ks → AreHigher ks
  all_are [] all = record { no_lower = refl; no_equal = refl; all_higher = refl }
  all_are (j ∷ ks) all =
      let more = all_are ks all.1 in
      let greater : key_cmp j k ≡ Greater = reversed k j all.0 in
      record {
        no_lower = ap (λ (o : Ordering). cond (is_lt o) (j ∷ lower ks) (lower ks)) greater ∙ more.no_lower;
        no_equal = ap (λ (o : Ordering). cond (is_eq o) (j ∷ equal ks) (equal ks)) greater ∙ more.no_equal;
        all_higher = ap (λ (o : Ordering). cond (is_gt o) (j ∷ higher ks) (higher ks)) greater ∙ ap (λ (l : List Key). j ∷ l) more.all_higher;
      }

  behind_head : (j : Key) (ks : List Key) → Rises (j ∷ ks) → key_cmp k j ≡ Less → AllByRecursion (λ i. key_cmp k i ≡ Less) ks
  behind_head j ks rise less = all_map (λ i more. key_total.trans k j i less more) ks (sorted_head key_cmp j ks rise)

  cut : (ks : List Key) → Rises ks → ks ≡ lower ks ++ (equal ks ++ higher ks)
  cut [] rise = refl
  cut (j ∷ ks) rise = by (key_cmp j k) refl (cut ks (sorted_tail key_cmp j ks rise))
    where
      by : (o : Ordering) → key_cmp j k ≡ o → ks ≡ lower ks ++ (equal ks ++ higher ks)
          → j ∷ ks ≡ cond (is_lt o) (j ∷ lower ks) (lower ks) ++ (cond (is_eq o) (j ∷ equal ks) (equal ks) ++ cond (is_gt o) (j ∷ higher ks) (higher ks))
      by Less is more = ap (λ (l : List Key). j ∷ l) more
      by Equal is more =
          let rest = all_are ks (subst (λ (x : Key). AllByRecursion (λ i. key_cmp x i ≡ Less) ks) (exact_keys j k is) (sorted_head key_cmp j ks rise)) in
          sym (λ i. rest.no_lower i ++ (j ∷ rest.no_equal i ++ rest.all_higher i))
      by Greater is more =
          let rest = all_are ks (behind_head j ks rise (turned j k is)) in
          sym (λ i. rest.no_lower i ++ (rest.no_equal i ++ j ∷ rest.all_higher i))

  middle : (ks : List Key) → Rises ks → (equal ks ≡ []) ⊎ (equal ks ≡ k ∷ [])
  middle [] rise = inl refl
  middle (j ∷ ks) rise = by (key_cmp j k) refl (middle ks (sorted_tail key_cmp j ks rise))
    where
      by : (o : Ordering) → key_cmp j k ≡ o → (equal ks ≡ []) ⊎ (equal ks ≡ k ∷ []) → (cond (is_eq o) (j ∷ equal ks) (equal ks) ≡ []) ⊎ (cond (is_eq o) (j ∷ equal ks) (equal ks) ≡ k ∷ [])
      by Less is more = more
      by Equal is more =
          let same : j ≡ k = exact_keys j k is in
          let rest = all_are ks (subst (λ (x : Key). AllByRecursion (λ i. key_cmp x i ≡ Less) ks) same (sorted_head key_cmp j ks rise)) in
          inr (λ i. same i ∷ rest.no_equal i)
      by Greater is more = inl (all_are ks (behind_head j ks rise (turned j k is))).no_equal

-- ---- where nothing is to stand

abbrev gone_at : List Entry → Key → List Command
gone_at from k = option_map_or (λ f. DeleteStrict k ∷ []) (entry_at from k) []

-- a key that isn't the first of these is among the others
later : (k : Key) (ks : List Key) (j : Key) → Contains (k ∷ ks) j → key_cmp k j ≡ Less → Contains ks j
later k ks j c less = elim (of_cons k ks j c) [ inl same ↦ absurd (no_cycle k (subst (λ (x : Key). key_cmp k x ≡ Less) (sym same) less)) | inr more ↦ more ]

gone_walk : (ks : List Key) (from : List Entry) → Rises ks → IsInKeyOrder from → AllByRecursion (λ e. Contains ks e.key) from → flat_map (gone_at from) ks ≡ deletes from
gone_walk [] [] rise order all = refl
gone_walk [] (e ∷ es) rise order all = none all.0
  where
    none : Contains [] e.key → [] ≡ deletes (e ∷ es)
    none (n, lt, is) = absurd (omega (arith, lt))
gone_walk (k ∷ ks) [] rise order all = gone_walk ks [] (sorted_tail key_cmp k ks rise) tt tt
gone_walk (k ∷ ks) (e ∷ es) rise order all =
    by (gone_walk ks es (sorted_tail key_cmp k ks rise) order.1) (gone_walk ks (e ∷ es) (sorted_tail key_cmp k ks rise) order) (key_cmp e.key k) refl
  where
    head : AllByRecursion (λ j. key_cmp k j ≡ Less) ks
    head = sorted_head key_cmp k ks rise

    by : (AllByRecursion (λ f. Contains ks f.key) es → flat_map (gone_at es) ks ≡ deletes es)
        → (AllByRecursion (λ f. Contains ks f.key) (e ∷ es) → flat_map (gone_at (e ∷ es)) ks ≡ deletes (e ∷ es))
        → (o : Ordering) → key_cmp e.key k ≡ o → flat_map (gone_at (e ∷ es)) (k ∷ ks) ≡ deletes (e ∷ es)
    by others whole Less is = elim (of_cons k ks e.key all.0) [
      | inl same ↦ absurd (no_cycle k (subst (λ (x : Key). key_cmp x k ≡ Less) (sym same) is))
      | inr more ↦ absurd (no_cycle k (key_total.trans k e.key k (of_all (λ j. key_cmp k j ≡ Less) ks head e.key more) is))
    ]
    by others whole Equal is =
        let same : e.key ≡ k = exact_keys e.key k is in
        let here : gone_at (e ∷ es) k ≡ DeleteStrict k ∷ [] = ap (λ (o : Ordering). option_map_or (λ f. DeleteStrict k ∷ []) (cond (is_eq o) (Some e) (entry_at es k)) []) is in
        let rest : flat_map (gone_at (e ∷ es)) ks ≡ flat_map (gone_at es) ks =
        flat_same (gone_at (e ∷ es)) (gone_at es) ks (all_map (λ j less. ap (λ o. option_map_or (λ f. DeleteStrict j ∷ []) o []) (other_key e es j Less (subst (λ (x : Key). key_cmp x j ≡ Less) (sym same) less) refl)) ks head) in
        let behind : AllByRecursion (λ f. Contains ks f.key) es =
        all_by (λ f. Contains ks f.key) es (λ f c. later k ks f.key (of_all (λ g. Contains (k ∷ ks) g.key) es all.1 f c) (subst (λ (x : Key). key_cmp x f.key ≡ Less) same (of_all (λ g. key_cmp e.key g.key ≡ Less) es order.0 f c))) in
        ap (λ (cs : List Command). cs ++ flat_map (gone_at (e ∷ es)) ks) here ∙ (λ i. DeleteStrict (sym same i) ∷ (rest ∙ others behind) i)
    by others whole Greater is =
        let less : key_cmp k e.key ≡ Less = turned e.key k is in
        let all_behind : AllByRecursion (λ f. key_cmp k f.key ≡ Less) (e ∷ es) = (less, all_map (λ f more. key_total.trans k e.key f.key less more) es order.0) in
        let here : gone_at (e ∷ es) k ≡ [] = ap (λ o. option_map_or (λ f. DeleteStrict k ∷ []) o []) (none_before k (e ∷ es) all_behind) in
        let behind : AllByRecursion (λ f. Contains ks f.key) (e ∷ es) =
        all_by (λ f. Contains ks f.key) (e ∷ es) (λ f c. later k ks f.key (of_all (λ g. Contains (k ∷ ks) g.key) (e ∷ es) all f c) (of_all (λ g. key_cmp k g.key ≡ Less) (e ∷ es) all_behind f c)) in
        ap (λ (cs : List Command). cs ++ flat_map (gone_at (e ∷ es)) ks) here ∙ whole behind

-- ---- all of it

unchanged : (e : Entry) (o : Option Entry) → o ≡ Some e → option_map_or (λ f. entry_same f e) o false ≡ true
unchanged e o is = ap (λ p. option_map_or (λ f. entry_same f e) p false) is ∙ (entry_exact e e).1 refl

pub walked : (to from : List Entry) (ks : List Key) → IsInKeyOrder from → IsInKeyOrder to → Rises ks → AreAllTold ks from to → flat_map (change_at from to) ks ≡ difference from to
walked [] from ks of_from of_to rise told =
    gone_walk ks from rise of_from (all_by (λ e. Contains ks e.key) from (λ e c. told e.key (λ same. none-some e (sym same ∙ entry_of from of_from e c))))
walked (e ∷ es) from ks of_from of_to rise told = whole (λ above_from higher_ks order rises names. walked es above_from higher_ks order of_to.1 rises names)
  where
    k : Key
    k = e.key

    change : Key → List Command
    change = change_at from (e ∷ es)

    all_above : AllByRecursion (λ f. key_cmp k f.key ≡ Less) es
    all_above = of_to.0

    -- what is before the entry's key is deleted
    lower_change : (j : Key) → key_cmp j k ≡ Less → change j ≡ gone_at (below k from) j
    lower_change j less =
        let none : entry_at (e ∷ es) j ≡ None = none_before j (e ∷ es) (less, all_map (λ f more. key_total.trans j k f.key less more) es all_above) in
        ap (λ o. change_of j o (entry_at from j)) none ∙ ap (λ o. option_map_or (λ f. DeleteStrict j ∷ []) o []) (sym (among_below k j from less))

    told_lower : (f : Entry) → Contains (below k from) f → Contains (lower k ks) f.key
    told_lower f c =
        let less : key_cmp f.key k ≡ Less = of_all (λ g. key_cmp g.key k ≡ Less) (below k from) (below_before k from) f c in
        let stands : entry_at from f.key ≡ Some f = sym (among_below k f.key from less) ∙ entry_of (below k from) (kept_order (λ g. is_lt (key_cmp g.key k)) from of_from) f c in
        let none : entry_at (e ∷ es) f.key ≡ None = none_before f.key (e ∷ es) (less, all_map (λ g more. key_total.trans f.key k g.key less more) es all_above) in
        in_kept (λ j. is_lt (key_cmp j k)) ks f.key (told f.key (λ same. none-some f (sym none ∙ sym same ∙ stands))) (ap is_lt less)

    before : flat_map change (lower k ks) ≡ deletes (below k from)
    before =
        flat_same change (gone_at (below k from)) (lower k ks) (all_map (λ j is. lower_change j (less_from_test (key_cmp j k) is)) (lower k ks) (all_pass (λ j. is_lt (key_cmp j k)) ks))
        ∙ gone_walk (lower k ks) (below k from) (IsStrictlySortedBy-filter key_cmp (λ j. is_lt (key_cmp j k)) ks rise) (kept_order (λ f. is_lt (key_cmp f.key k)) from of_from) (all_by (λ f. Contains (lower k ks) f.key) (below k from) told_lower)

    -- at its key it is added, unless it stands
    none_told : Contains [] k → [] ≡ Add e ∷ []
    none_told (n, lt, is) = absurd (omega (arith, lt))

    not_told : (b : Bool) → has from e ≡ b → equal k ks ≡ [] → [] ≡ (if b then [] else Add e ∷ [])
    not_told true is none = refl
    not_told false is none =
        let there = told k (λ same. true≢false (sym (unchanged e (entry_at from k) (same ∙ own_key e es)) ∙ is)) in
        none_told (subst (λ (l : List Key). Contains l k) none (in_kept (λ j. is_eq (key_cmp j k)) ks k there (ap is_eq (same_key k))))

    here : flat_map change (equal k ks) ≡ (if has from e then [] else Add e ∷ [])
    here = elim (middle k ks rise) [
      | inl none ↦ ap (flat_map change) none ∙ not_told (has from e) refl none
      | inr one ↦ ap (flat_map change) one ∙ append-nil (change k) ∙ ap (λ o. change_of k o (entry_at from k)) (own_key e es)
    ]

    -- behind it the rest of both plans counts
    higher_change : (j : Key) → key_cmp j k ≡ Greater → change j ≡ change_at (above k from) es j
    higher_change j greater = λ i. change_of j (other_key e es j Less (turned j k greater) refl i) (sym (among_above k j from greater) i)

    none_lower : (j : Key) → key_cmp j k ≡ Less → entry_at (above k from) j ≡ entry_at es j
    none_lower j less =
        none_before j (above k from) (all_map (λ f more. key_total.trans j k f.key less more) (above k from) (above_behind k from))
        ∙ sym (none_before j es (all_map (λ f more. key_total.trans j k f.key less more) es all_above))

    none_equal : (j : Key) → j ≡ k → entry_at (above k from) j ≡ entry_at es j
    none_equal j same = subst (λ (x : Key). entry_at (above k from) x ≡ entry_at es x) (sym same) (none_before k (above k from) (above_behind k from) ∙ sym (none_before k es all_above))

    told_by : (j : Key) → (entry_at (above k from) j ≡ entry_at es j → ⊥) → (o : Ordering) → key_cmp j k ≡ o → Contains (higher k ks) j
    told_by j differ Less is = absurd (differ (none_lower j is))
    told_by j differ Equal is = absurd (differ (none_equal j (exact_keys j k is)))
    told_by j differ Greater is =
        let there = told j (λ same. differ (among_above k j from is ∙ same ∙ other_key e es j Less (turned j k is) refl)) in
        in_kept (λ i. is_gt (key_cmp i k)) ks j there (ap is_gt is)

    told_higher : AreAllTold (higher k ks) (above k from) es
    told_higher = λ j differ. told_by j differ (key_cmp j k) refl

    behind : flat_map (change_at (above k from) es) (higher k ks) ≡ difference (above k from) es → flat_map change (higher k ks) ≡ difference (above k from) es
    behind others =
        flat_same change (change_at (above k from) es) (higher k ks) (all_map (λ j is. higher_change j (greater_from_test (key_cmp j k) is)) (higher k ks) (all_pass (λ j. is_gt (key_cmp j k)) ks)) ∙ others

    whole : ((above_from : List Entry) (higher_ks : List Key) → IsInKeyOrder above_from → Rises higher_ks → AreAllTold higher_ks above_from es → flat_map (change_at above_from es) higher_ks ≡ difference above_from es)
        → flat_map (change_at from (e ∷ es)) ks ≡ difference from (e ∷ es)
    whole others =
        let rest = others (above k from) (higher k ks) (kept_order (λ f. is_gt (key_cmp f.key k)) from of_from) (IsStrictlySortedBy-filter key_cmp (λ j. is_gt (key_cmp j k)) ks rise) told_higher in
        ap (flat_map change) (cut k ks rise) ∙ flat_map-append change (lower k ks) (equal k ks ++ higher k ks) ∙ ap (λ (cs : List Command). flat_map change (lower k ks) ++ cs) (flat_map-append change (equal k ks) (higher k ks))
        ∙ (λ i. before i ++ (here i ++ behind rest i))
