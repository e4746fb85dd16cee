-- The least identifier that is reached is the number of the group: in as many steps as there are
-- datapaths all are reached that any walk reaches, since each step up to the last finds a further one.
use Rattle.std.proofs.Common.{◌≡◌, ℕ, zero, suc, ◌+◌, ◌<◌, ◌≤◌, ◌==◌, ◌&&◌, ◌||◌, Bool, true, false, cond, Some, None, List, [], ◌∷◌, length, get_or, map, filter, nat_lt, refl, inl, inr, sym, ap, arith, subst, Contains}
use Rattle.std.specs.List.{list_any}
use Rattle.std.specs.Option.{option_map_or}
use Rattle.std.proofs.lemmas.Bool.{ltb-true, ltb-false, eqb-true, eq-eqb, cases_Bool, or_cases, or_left, or_right, and_parts, and_from, both_ways}
use Rattle.std.proofs.lemmas.List.Folds.{Any-from_list_any, list_any_at}
use Rattle.net_base.specs.declared.numbers.DpId.{DpId}
use Rattle.conf_types.specs.declared.datapath.Dp.{Dp}
use Rattle.conf_types.specs.declared.datapath.Port.{Port}
use Rattle.conf_types.specs.declared.datapath.StackEnd.{StackEnd}
use Rattle.conf_types.specs.Configuration.{Configuration}
use Rattle.conf_types.specs.Groups.{IsDp, IsLinked, Walk, IsJoined, IsGroup, leads_to, is_reached, least_id, group_of, of_dps}

pub same_id : (a b : DpId) → a.0 ≡ b.0 → a ≡ b
same_id a b e = let made : ℕ → DpId = λ n. record { 0 = n } in ap made e

-- ---- counting

grows : (s t : Bool) → (s ≡ true → t ≡ true) → cond s 1 0 ≤ cond t 1 0
grows true t h = rw (h refl) (omega arith)
grows false t h = omega arith

module _ {X : Type 0} where
  count : (X → Bool) → List X → ℕ
  count t [] = 0
  count t (x ∷ xs) = cond (t x) 1 0 + count t xs

  count_most : (t : X → Bool) (xs : List X) → count t xs ≤ length xs
  unfolding count
  count_most t [] = omega arith
  count_most t (x ∷ xs) =
      elim (t x) as (λ b. cond b 1 0 + count t xs ≤ length (x ∷ xs)) [ true ↦ omega (arith, count_most t xs) | false ↦ omega (arith, count_most t xs) ]

  count_grows : (s t : X → Bool) → ((x : X) → s x ≡ true → t x ≡ true) → (xs : List X) → count s xs ≤ count t xs
  unfolding count
  count_grows s t h [] = omega arith
  count_grows s t h (x ∷ xs) = let here : cond (s x) 1 0 ≤ cond (t x) 1 0 = grows (s x) (t x) (h x) in omega (arith, here, count_grows s t h xs)

  -- one more passes
  count_more : (s t : X → Bool) → ((x : X) → s x ≡ true → t x ≡ true) → (xs : List X) (k : ℕ) (d : X) → k < length xs → s (get_or xs k d) ≡ false → t (get_or xs k d) ≡ true → count s xs + 1 ≤ count t xs
  unfolding count
  count_more s t h [] k d lt no_s yes_t = absurd (omega arith)
  count_more s t h (x ∷ xs) zero d lt no_s yes_t = rw (no_s, yes_t) (omega (arith, count_grows s t h xs))
  count_more s t h (x ∷ xs) (suc k) d lt no_s yes_t =
      let here : cond (s x) 1 0 ≤ cond (t x) 1 0 = grows (s x) (t x) (h x) in
      let more : count s xs + 1 ≤ count t xs = count_more s t h xs k d (omega arith) no_s yes_t in
      omega (arith, here, more)

-- the default doesn't matter below the length
pub at_place : {X : Type 0} (xs : List X) (k : ℕ) (d : X) → k < length xs → get_or xs k (get_or xs k d) ≡ get_or xs k d
at_place [] k d lt = absurd (omega arith)
at_place (x ∷ xs) zero d lt = refl
at_place (x ∷ xs) (suc k) d lt = at_place xs k d (omega arith)

-- ---- the least

least_of : (a b : DpId) → ((cond (nat_lt a.0 b.0) a b).0 ≤ a.0) × ((cond (nat_lt a.0 b.0) a b).0 ≤ b.0)
least_of a b =
    elim (cases_Bool (nat_lt a.0 b.0)) [
      | inl less ↦ let lt : a.0 < b.0 = ltb-true a.0 b.0 less in rw less (omega arith, omega arith)
      | inr not_less ↦ let le : b.0 ≤ a.0 = ltb-false a.0 b.0 not_less in rw not_less (le, omega arith)
    ]

one_of : (P : DpId → Type 0) (t : Bool) (a b : DpId) → P a → P b → P (cond t a b)
one_of P true a b p q = p
one_of P false a b p q = q

module _ (a : DpId) (q : Dp → Bool) where
  ids : List Dp → List DpId
  ids ds = map (λ d. d.id) (filter q ds)

  -- it is one of them
  least_in : (P : DpId → Type 0) → P a → (ds : List Dp) → ((k : ℕ) (d : Dp) → k < length ds → q (get_or ds k d) ≡ true → P (get_or ds k d).id) → P (least_id a (ids ds))
  unfolding ids
  least_in P here [] each = here
  least_in P here (d ∷ ds) each =
      let more = least_in P here ds (λ k e lt. each (suc k) e (omega arith)) in
      elim (cases_Bool (q d)) [
        | inl chosen ↦ rw chosen (one_of P (nat_lt d.id.0 (least_id a (ids ds)).0) d.id (least_id a (ids ds)) (each 0 d (omega arith) chosen) more)
        | inr left_out ↦ rw left_out more
      ]

  -- and none is less
  least_below : (ds : List Dp) → (least_id a (ids ds)).0 ≤ a.0
  unfolding ids
  least_below [] = omega arith
  least_below (d ∷ ds) =
      elim (cases_Bool (q d)) [
        | inl chosen ↦ rw chosen (omega (arith, (least_of d.id (least_id a (ids ds))).1, least_below ds))
        | inr left_out ↦ rw left_out (least_below ds)
      ]

  least_at : (ds : List Dp) (k : ℕ) (d : Dp) → k < length ds → q (get_or ds k d) ≡ true → (least_id a (ids ds)).0 ≤ (get_or ds k d).id.0
  unfolding ids
  least_at [] k d lt chosen = absurd (omega arith)
  least_at (x ∷ ds) zero d lt chosen = rw chosen (least_of x.id (least_id a (ids ds))).0
  least_at (x ∷ ds) (suc k) d lt chosen =
      elim (cases_Bool (q x)) [
        | inl here ↦ rw here (omega (arith, (least_of x.id (least_id a (ids ds))).1, least_at ds k d (omega arith) chosen))
        | inr left_out ↦ rw left_out (least_at ds k d (omega arith) chosen)
      ]

-- ---- walks and steps

module _ (conf : Configuration) where
  -- a walk goes on
  pub extend : (a c b : DpId) (n : ℕ) → Walk conf a c n → IsLinked conf c b → IsDp conf b → Walk conf a b (suc n)
  extend a c b zero w link end = (b, subst (λ x. IsLinked conf x b) (sym w.1) link, (end, refl))
  extend a c b (suc n) w link end = (w.0, w.1, extend w.0 c b n w.2 link end)

  -- what a test says of a datapath's links
  pub leads_from_test : (d : Dp) (b : DpId) → Contains conf.dps d → leads_to d b ≡ true → IsLinked conf d.id b
  leads_from_test d b here leads =
      let found = Any-from_list_any (λ (p : Port). option_map_or (λ far. far.dp.0 == b.0) p.stack false) d.ports leads in
      let p : Port = found.1 in
      elim p.stack as (λ s. p.stack ≡ s → option_map_or (λ (far : StackEnd). far.dp.0 == b.0) s false ≡ true → IsLinked conf d.id b) [
        | None ↦ λ is no_far. absurd cc
        | Some far ↦ λ is leads_there. record {
          dp = d;
          port = p;
          far = far;
          here = here;
          id_is = refl;
          has = (found.0, found.2, found.3);
          leads = is;
          far_is = same_id far.dp b (eqb-true far.dp.0 b.0 leads_there);
        }
      ] refl found.4

  pub test_from_link : (a b : DpId) (link : IsLinked conf a b) → leads_to link.dp b ≡ true
  test_from_link a b link =
      let has = link.has in
      list_any_at (λ (p : Port). option_map_or (λ far. far.dp.0 == b.0) p.stack false) link.dp.ports has.0 link.port has.1
      (subst (λ p. option_map_or (λ far. far.dp.0 == b.0) p.stack false ≡ true) (sym has.2)
      (subst (λ s. option_map_or (λ (far : StackEnd). far.dp.0 == b.0) s false ≡ true) (sym link.leads)
      (eq-eqb link.far.dp.0 b.0 (ap (λ (x : DpId). x.0) link.far_is))))

  module _ (a : DpId) (known : IsDp conf a) where
    abbrev reached : ℕ → DpId → Bool
    reached = is_reached conf a

    abbrev in_step : ℕ → Dp → Bool
    in_step n d = reached n d.id

    keeps : (n : ℕ) (b : DpId) → reached n b ≡ true → reached (suc n) b ≡ true
    keeps n b r = or_left (reached n b) (list_any (λ d. reached n d.id && leads_to d b) conf.dps) r

    -- from a datapath that is reached a link leads on
    goes_on : (n : ℕ) (b : DpId) (k : ℕ) (d : Dp) → k < length conf.dps → reached n (get_or conf.dps k d).id ≡ true → leads_to (get_or conf.dps k d) b ≡ true → reached (suc n) b ≡ true
    goes_on n b k d lt r leads =
        or_right (reached n b) (list_any (λ d. reached n d.id && leads_to d b) conf.dps)
        (list_any_at (λ d. reached n d.id && leads_to d b) conf.dps k d lt (and_from (reached n (get_or conf.dps k d).id) (leads_to (get_or conf.dps k d) b) r leads))

    -- what is reached is joined
    joined : (n : ℕ) (b : DpId) → IsDp conf b → reached n b ≡ true → IsJoined conf a b
    joined zero b end r = (0, (known, same_id a b (eqb-true a.0 b.0 r)))
    joined (suc n) b end r =
        elim (or_cases (reached n b) (list_any (λ d. reached n d.id && leads_to d b) conf.dps) r) [
          | inl before ↦ joined n b end before
          | inr stepped ↦
              let found = Any-from_list_any (λ (d : Dp). reached n d.id && leads_to d b) conf.dps stepped in
              let d : Dp = found.1 in
              let parts = and_parts (reached n d.id) (leads_to d b) found.4 in
              let here : Contains conf.dps d = (found.0, found.2, found.3) in
              let way = joined n d.id (record { dp = d; here = here; id_is = refl }) parts.0 in
              (suc way.0, extend a d.id b way.0 way.1 (leads_from_test d b here parts.1) end)
        ]

    start : 1 ≤ count (in_step 0) conf.dps
    start =
        let here = known.here in
        let chosen : in_step 0 (get_or conf.dps here.0 known.dp) ≡ true = subst (λ (d : Dp). in_step 0 d ≡ true) (sym here.2) (eq-eqb a.0 known.dp.id.0 (ap (λ (x : DpId). x.0) (sym known.id_is))) in
        let nothing = count_more (λ (d : Dp). false) (in_step 0) (λ d e. absurd cc) conf.dps here.0 known.dp here.1 refl chosen in
        omega (arith, nothing)

    -- each step that finds a further one stands on one that did
    further : (n : ℕ) (b : DpId) → reached n b ≡ false → reached (suc n) b ≡ true → n + 1 ≤ count (in_step n) conf.dps
    further zero b new now = omega (arith, start)
    further (suc n) b new now =
        elim (or_cases (reached (suc n) b) (list_any (λ d. reached (suc n) d.id && leads_to d b) conf.dps) now) [
          | inl before ↦ absurd (both_ways (reached (suc n) b) new before)
          | inr stepped ↦
              let found = Any-from_list_any (λ (d : Dp). reached (suc n) d.id && leads_to d b) conf.dps stepped in
              let d : Dp = found.1 in
              let k : ℕ = found.0 in
              let at : get_or conf.dps k d ≡ d = found.3 in
              let parts = and_parts (reached (suc n) d.id) (leads_to d b) found.4 in
              let leads : leads_to (get_or conf.dps k d) b ≡ true = subst (λ (x : Dp). leads_to x b ≡ true) (sym at) parts.1 in
              let late : reached n d.id ≡ false =
              elim (cases_Bool (reached n d.id)) [
                | inl early ↦ absurd (both_ways (reached (suc n) b) new (goes_on n b k d found.2 (subst (λ (x : Dp). reached n x.id ≡ true) (sym at) early) leads))
                | inr late ↦ late
              ] in
              let before : n + 1 ≤ count (in_step n) conf.dps = further n d.id late parts.0 in
              let one_more : count (in_step n) conf.dps + 1 ≤ count (in_step (suc n)) conf.dps =
              count_more (in_step n) (in_step (suc n)) (λ x. keeps n x.id) conf.dps k d found.2 (subst (λ (x : Dp). reached n x.id ≡ false) (sym at) late) (subst (λ (x : Dp). reached (suc n) x.id ≡ true) (sym at) parts.0) in
              omega arith
        ]

    abbrev all : ℕ
    all = length conf.dps

    closed : (b : DpId) → reached (suc all) b ≡ true → reached all b ≡ true
    closed b now =
        elim (cases_Bool (reached all b)) [
          | inl before ↦ before
          | inr new ↦ absurd (let many = further all b new now in let few = count_most (in_step all) conf.dps in omega (arith, many, few))
        ]

    follows : (n : ℕ) (c b : DpId) → Walk conf c b n → reached all c ≡ true → reached all b ≡ true
    follows zero c b w r = subst (λ x. reached all x ≡ true) w.1 r
    follows (suc n) c b w r =
        let link : IsLinked conf c w.0 = w.1 in
        let here = link.here in
        let from : reached all (get_or conf.dps here.0 link.dp).id ≡ true = subst (λ (d : Dp). reached all d.id ≡ true) (sym here.2) (subst (λ x. reached all x ≡ true) (sym link.id_is) r) in
        let leads : leads_to (get_or conf.dps here.0 link.dp) w.0 ≡ true = subst (λ (d : Dp). leads_to d w.0 ≡ true) (sym here.2) (test_from_link c w.0 link) in
        follows n w.0 b w.2 (closed w.0 (goes_on all w.0 here.0 link.dp here.1 from leads))

    self_reached : (n : ℕ) → reached n a ≡ true
    self_reached zero = eq-eqb a.0 a.0 refl
    self_reached (suc n) = keeps n a (self_reached n)

    -- where a walk ends there is a datapath
    ends : (n : ℕ) (c b : DpId) → Walk conf c b n → IsDp conf b
    ends zero c b w = subst (λ x. IsDp conf x) w.1 w.0
    ends (suc n) c b w = ends n w.0 b w.2

    pub group_is : IsGroup conf a (group_of conf a)
    unfolding ids
    group_is = record {
      joined = least_in a (in_step all) (λ b. IsJoined conf a b) (0, (known, refl)) conf.dps (λ k d lt chosen.
          joined all (get_or conf.dps k d).id (record { dp = get_or conf.dps k d; here = (k, lt, at_place conf.dps k d lt); id_is = refl }) chosen);
      least = λ other way.
          let end = ends way.0 a other way.1 in
          let here = end.here in
          let r : reached all other ≡ true = follows way.0 a other way.1 (self_reached all) in
          let chosen : in_step all (get_or conf.dps here.0 end.dp) ≡ true = subst (λ (d : Dp). in_step all d ≡ true) (sym here.2) (subst (λ x. reached all x ≡ true) (sym end.id_is) r) in
          let low = least_at a (in_step all) conf.dps here.0 end.dp here.1 chosen in
          subst (λ (x : DpId). (group_of conf a).0 ≤ x.0) end.id_is (subst (λ (d : Dp). (group_of conf a).0 ≤ d.id.0) here.2 low);
    }

-- the number hangs on the datapaths alone
reached_by_dps : (conf : Configuration) (a : DpId) (n : ℕ) (b : DpId) → is_reached (of_dps conf.dps) a n b ≡ is_reached conf a n b
reached_by_dps conf a zero b = refl
reached_by_dps conf a (suc n) b =
    λ i. reached_by_dps conf a n b i || list_any (λ d. reached_by_dps conf a n d.id i && leads_to d b) conf.dps

pub group_by_dps : (conf : Configuration) (a : DpId) → group_of (of_dps conf.dps) a ≡ group_of conf a
group_by_dps conf a = λ i. least_id a (map (λ d. d.id) (filter (λ d. reached_by_dps conf a (length conf.dps) d.id i) conf.dps))
