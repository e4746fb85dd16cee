-- What tables hold after deletes and adds.
use Rattle.std.proofs.Common.{◌≡◌, ℕ, zero, suc, ◌+◌, ◌<◌, ◌⊎◌, inl, inr, Bool, true, length, get_or, take, List, [], ◌∷◌, ◌++◌, map, filter, refl, sym, ap, ◌∙◌, subst, arith, true≢false}
use Rattle.std.specs.Prelude.{Contains}
use Rattle.std.specs.List.{AllByRecursion, flat_map}
use Rattle.std.specs.declared.cmp.Ordering.{Ordering}
use Rattle.std.specs.declared.cmp.Ordering.TheVariants.{Less, Equal, Greater}
use Rattle.std.specs.Ordering.{is_lt, is_gt, ordering_reverse}
use Rattle.std.proofs.lemmas.List.{map-append, take_more}
use Rattle.std.proofs.lemmas.List.Elements.{Contains-append_cases}
use Rattle.of_match.specs.declared.entry.Command.{Command}
use Rattle.of_match.specs.declared.entry.Command.TheVariants.{Add, DeleteStrict}
use Rattle.of_match.specs.declared.entry.Entry.{Entry}
use Rattle.of_match.specs.declared.entry.Key.{Key}
use Rattle.of_match.specs.FlowTables.{IsInKeyOrder, below, above, after}
use Rattle.of_match.specs.KeyOrder.{key_cmp}
use Rattle.of_match.specs.KeyLaws.{key_total, exact_keys}
use Rattle.of_match.specs.Settled.{after_all}
use Rattle.conf_types.specs.declared.datapath.Dp.{Dp}
use Rattle.conf_types.specs.Configuration.{Configuration}
use Rattle.conf_types.specs.State.{State}
use Rattle.law_runs.specs.Members.{head_of, tail_of, of_all, all_by, all_filtered, in_front, behind, in_filtered}
use Rattle.plan_base.specs.Accepted.{HaveDistinctKeys}
use Rattle.plan_base.proofs.Each.{all_append}
use Rattle.plan_units.specs.declared.unit.Unit.{Unit as PlanUnit}
use Rattle.plan_units.specs.Units.{entries}
use Rattle.warm_plan.specs.Parts.{without, with_units}

-- ---- members, by how a list is made

pub of_cons : {A : Type 0} (x : A) (xs : List A) (y : A) → Contains (x ∷ xs) y → (x ≡ y) ⊎ Contains xs y
of_cons x xs y (zero, lt, is) = inl is
of_cons x xs y (suc k, lt, is) = inr (k, omega (arith, lt), is)

pub record IsKeptOf {A : Type 0} (p : A → Bool) (xs : List A) (x : A) : Type 0 where
  pub within : Contains xs x
  pub passes : p x ≡ true

pub of_kept : {A : Type 0} (p : A → Bool) (xs : List A) (x : A) → Contains (filter p xs) x → IsKeptOf p xs x
of_kept p xs x c = of_all (IsKeptOf p xs) (filter p xs) (all_filtered (IsKeptOf p xs) p xs (all_by (λ y. p y ≡ true → IsKeptOf p xs y) xs (λ y d is. record { within = d; passes = is }))) x c

pub record IsJoinedOf {A B : Type 0} (f : A → List B) (xs : List A) (y : B) : Type 0 where
  pub from : A
  pub within : Contains xs from
  pub here : Contains (f from) y

pub of_flat : {A B : Type 0} (f : A → List B) (xs : List A) (y : B) → Contains (flat_map f xs) y → IsJoinedOf f xs y
of_flat f [] y (k, lt, is) = absurd (omega (arith, lt))
of_flat f (x ∷ xs) y c = elim (Contains-append_cases (f x) (flat_map f xs) y c) [
  | inl first ↦ record { from = x; within = head_of x xs; here = first }
  | inr other ↦ let more = of_flat f xs y other in record { from = more.from; within = tail_of x xs more.from more.within; here = more.here }
]

-- one member more
pub all_more : {A : Type 0} (P : A → Type 0) (xs : List A) (i : ℕ) (x : A) → i < length xs → x ≡ get_or xs i x → AllByRecursion P (take i xs) → P x → AllByRecursion P (take (i + 1) xs)
all_more P xs i x lt is all here =
    subst (AllByRecursion P) (sym (take_more xs i x lt)) (all_append P (take i xs) (get_or xs i x ∷ []) all (subst P is here, tt))

-- ---- one command

not_before_itself : (k : Key) → key_cmp k k ≡ Less → ⊥
not_before_itself k less = true≢false (ap is_lt (sym less ∙ key_total.antisymm k k ∙ ap ordering_reverse less))

not_behind_itself : (k : Key) → key_cmp k k ≡ Greater → ⊥
not_behind_itself k greater = true≢false (ap is_gt (sym greater ∙ key_total.antisymm k k ∙ ap ordering_reverse greater))

is_less : (o : Ordering) → is_lt o ≡ true → o ≡ Less
is_less Less is = refl
is_less Equal is = absurd (true≢false (sym is))
is_less Greater is = absurd (true≢false (sym is))

is_greater : (o : Ordering) → is_gt o ≡ true → o ≡ Greater
is_greater Less is = absurd (true≢false (sym is))
is_greater Equal is = absurd (true≢false (sym is))
is_greater Greater is = refl

module _ (t : List Entry) (k : Key) where
  -- before or behind a key stands what has another one
  of_below : (e : Entry) → Contains (below k t) e → Contains t e × (e.key ≡ k → ⊥)
  of_below e c =
      let kept = of_kept (λ (x : Entry). is_lt (key_cmp x.key k)) t e c in
      (kept.within, λ same. not_before_itself k (subst (λ (x : Key). key_cmp x k ≡ Less) same (is_less (key_cmp e.key k) kept.passes)))

  of_above : (e : Entry) → Contains (above k t) e → Contains t e × (e.key ≡ k → ⊥)
  of_above e c =
      let kept = of_kept (λ (x : Entry). is_gt (key_cmp x.key k)) t e c in
      (kept.within, λ same. not_behind_itself k (subst (λ (x : Key). key_cmp x k ≡ Greater) same (is_greater (key_cmp e.key k) kept.passes)))

  apart : (middle : List Entry) (e : Entry) → Contains t e → (e.key ≡ k → ⊥) → Contains (below k t ++ (middle ++ above k t)) e
  apart middle e c other = by (key_cmp e.key k) refl
    where
      by : (o : Ordering) → key_cmp e.key k ≡ o → Contains (below k t ++ (middle ++ above k t)) e
      by Less is = in_front (below k t) (middle ++ above k t) e (in_filtered (λ (x : Entry). is_lt (key_cmp x.key k)) t e c (ap is_lt is))
      by Equal is = absurd (other (exact_keys e.key k is))
      by Greater is = behind (below k t) (middle ++ above k t) e (behind middle (above k t) e (in_filtered (λ (x : Entry). is_gt (key_cmp x.key k)) t e c (ap is_gt is)))

  deleted : (e : Entry) → Contains (after t (DeleteStrict k)) e → Contains t e × (e.key ≡ k → ⊥)
  deleted e c = elim (Contains-append_cases (below k t) (above k t) e c) [ inl low ↦ of_below e low | inr high ↦ of_above e high ]

added : (t : List Entry) (x e : Entry) → Contains (after t (Add x)) e → (x ≡ e) ⊎ Contains t e
added t x e c = elim (Contains-append_cases (below x.key t) (x ∷ above x.key t) e c) [
  | inl low ↦ inr (of_below t x.key e low).0
  | inr high ↦ at (of_cons x (above x.key t) e high)
]
  where
    at : (x ≡ e) ⊎ Contains (above x.key t) e → (x ≡ e) ⊎ Contains t e
    at (inl same) = inl same
    at (inr higher) = inr (of_above t x.key e higher).0

-- ---- commands in a row

pub without_in : (keys : List Key) (t : List Entry) (e : Entry) → Contains t e → AllByRecursion (λ k. e.key ≡ k → ⊥) keys → Contains (without t keys) e
without_in [] t e c others = c
without_in (k ∷ keys) t e c others = without_in keys (after t (DeleteStrict k)) e (apart t k [] e c others.0) others.1

pub of_without : (keys : List Key) (t : List Entry) (e : Entry) → Contains (without t keys) e → Contains t e × AllByRecursion (λ k. e.key ≡ k → ⊥) keys
of_without [] t e c = (c, tt)
of_without (k ∷ keys) t e c =
    let more = of_without keys (after t (DeleteStrict k)) e c in
    let here = deleted t k e more.0 in
    (here.0, (here.1, more.1))

abbrev pub with : List Entry → List Entry → List Entry
with t es = after_all t (map Add es)

pub with_held : (es t : List Entry) (e : Entry) → Contains t e → AllByRecursion (λ f. e.key ≡ f.key → ⊥) es → Contains (with t es) e
with_held [] t e c others = c
with_held (f ∷ es) t e c others = with_held es (after t (Add f)) e (apart t f.key (f ∷ []) e c others.0) others.1

pub with_new : (es t : List Entry) (e : Entry) → HaveDistinctKeys es → Contains es e → Contains (with t es) e
with_new [] t e distinct (k, lt, is) = absurd (omega (arith, lt))
with_new (f ∷ es) t e distinct c = elim (of_cons f es e c) [
  | inl same ↦ subst (λ (x : Entry). Contains (with t (f ∷ es)) x) same (with_held es (after t (Add f)) f (behind (below f.key t) (f ∷ above f.key t) f (head_of f (above f.key t))) distinct.0)
  | inr more ↦ with_new es (after t (Add f)) e distinct.1 more
]

pub of_with : (es t : List Entry) (e : Entry) → Contains (with t es) e → Contains t e ⊎ Contains es e
of_with [] t e c = inl c
of_with (f ∷ es) t e c = elim (of_with es (after t (Add f)) e c) [
  | inr more ↦ inr (tail_of f es e more)
  | inl here ↦ at (added t f e here)
]
  where
    at : (f ≡ e) ⊎ Contains t e → Contains t e ⊎ Contains (f ∷ es) e
    at (inl same) = inr (subst (λ (x : Entry). Contains (f ∷ es) x) same (head_of f es))
    at (inr held) = inl held

-- ---- by units

after_joined : (t : List Entry) (xs ys : List Command) → after_all t (xs ++ ys) ≡ after_all (after_all t xs) ys
after_joined t [] ys = refl
after_joined t (x ∷ xs) ys = after_joined (after t x) xs ys

module _ (conf : Configuration) (now : State) (d : Dp) where
  pub units_joined : (t : List Entry) (us : List PlanUnit) → with_units conf now d t us ≡ with t (flat_map (entries conf now d) us)
  units_joined t [] = refl
  units_joined t (u ∷ us) =
      let first = entries conf now d u in
      let more = flat_map (entries conf now d) us in
      units_joined (with t first) us ∙ sym (after_joined t (map Add first) (map Add more)) ∙ ap (after_all t) (sym (map-append Add first more))

  with_units_joined : (t : List Entry) (us ws : List PlanUnit) → with_units conf now d t (us ++ ws) ≡ with_units conf now d (with_units conf now d t us) ws
  with_units_joined t [] ws = refl
  with_units_joined t (u ∷ us) ws = with_units_joined (with t (entries conf now d u)) us ws

  -- one unit more
  pub units_more : (t : List Entry) (us : List PlanUnit) (i : ℕ) (u : PlanUnit) → i < length us → u ≡ get_or us i u → after_all (with_units conf now d t (take i us)) (map Add (entries conf now d u)) ≡ with_units conf now d t (take (i + 1) us)
  units_more t us i u lt is =
      sym (ap (with_units conf now d t) (take_more us i u lt) ∙ with_units_joined t (take i us) (get_or us i u ∷ []) ∙ ap (λ (w : PlanUnit). with (with_units conf now d t (take i us)) (entries conf now d w)) (sym is))

-- ---- entries in key order are told by their members

pub same_members : (xs ys : List Entry) → IsInKeyOrder xs → IsInKeyOrder ys → ((e : Entry) → Contains xs e → Contains ys e) → ((e : Entry) → Contains ys e → Contains xs e) → xs ≡ ys
same_members [] [] ox oy to back = refl
same_members [] (y ∷ ys) ox oy to back = none (back y (head_of y ys))
  where
    none : Contains [] y → [] ≡ y ∷ ys
    none (k, lt, is) = absurd (omega (arith, lt))
same_members (x ∷ xs) [] ox oy to back = none (to x (head_of x xs))
  where
    none : Contains [] x → x ∷ xs ≡ []
    none (k, lt, is) = absurd (omega (arith, lt))
same_members (x ∷ xs) (y ∷ ys) ox oy to back = by (same_members xs ys ox.1 oy.1) (first (of_cons y ys x (to x (head_of x xs))) (of_cons x xs y (back y (head_of y ys))))
  where
    first : (y ≡ x) ⊎ Contains ys x → (x ≡ y) ⊎ Contains xs y → x ≡ y
    first (inl is) other = sym is
    first (inr behind_y) (inl is) = is
    first (inr behind_y) (inr behind_x) =
        absurd (not_before_itself x.key (key_total.trans x.key y.key x.key (of_all (λ f. key_cmp x.key f.key ≡ Less) xs ox.0 y behind_x) (of_all (λ f. key_cmp y.key f.key ≡ Less) ys oy.0 x behind_y)))

    -- the first is none of the others
    later : (z : Entry) (zs : List Entry) → AllByRecursion (λ f. key_cmp z.key f.key ≡ Less) zs → (e : Entry) → Contains zs e → z ≡ e → ⊥
    later z zs all e c same = not_before_itself z.key (subst (λ (w : Entry). key_cmp z.key w.key ≡ Less) (sym same) (of_all (λ f. key_cmp z.key f.key ≡ Less) zs all e c))

    rest : (e : Entry) (z : Entry) (zs : List Entry) → (z ≡ e → ⊥) → (z ≡ e) ⊎ Contains zs e → Contains zs e
    rest e z zs other (inl is) = absurd (other is)
    rest e z zs other (inr c) = c

    by : (((e : Entry) → Contains xs e → Contains ys e) → ((e : Entry) → Contains ys e → Contains xs e) → xs ≡ ys) → x ≡ y → x ∷ xs ≡ y ∷ ys
    by others same =
        let to_rest : (e : Entry) → Contains xs e → Contains ys e = λ e c. rest e y ys (λ is. later x xs ox.0 e c (same ∙ is)) (of_cons y ys e (to e (tail_of x xs e c))) in
        let back_rest : (e : Entry) → Contains ys e → Contains xs e = λ e c. rest e x xs (λ is. later y ys oy.0 e c (sym same ∙ is)) (of_cons x xs e (back e (tail_of y ys e c))) in
        let more : xs ≡ ys = others to_rest back_rest in
        λ i. same i ∷ more i
