-- Marks of datapaths, and the group that they give.
use Rattle.std.proofs.Common.{◌≡◌, ℕ, zero, suc, ◌+◌, ◌<◌, ◌≤◌, ◌||◌, Bool, true, false, cond, List, [], ◌∷◌, length, get_or, set, take, replicate, refl, inl, inr, sym, ap, ◌∙◌, arith, subst}
use Rattle.std.specs.List.{AllByRecursion}
use Rattle.std.proofs.lemmas.Bool.{both_ways, or_cases, or_left, or_right, cases_eq, cases_order}
use Rattle.std.proofs.lemmas.List.{get_or-set_same, get_or-set_other}
use Rattle.net_base.specs.declared.numbers.DpId.{DpId}
use Rattle.conf_types.specs.declared.datapath.Dp.{Dp}
use Rattle.conf_types.specs.Configuration.{Configuration}
use Rattle.conf_types.specs.Groups.{IsDp, IsLinked, Walk, IsJoined, leads_to, group_of}
use Rattle.conf_types.specs.Lists.{EachBefore}
use Rattle.conf_types.specs.Marks.{AreMarked}
use Rattle.conf_types.proofs.Found.{before_at}
use Rattle.conf_types.proofs.Reached.{at_place, same_id, extend, leads_from_test, test_from_link, group_is}

-- how many marks are still to be made
abbrev pub undone : List Bool → ℕ
undone [] = 0
undone (b ∷ bs) = cond b 0 1 + undone bs

pub undone_less : (bs : List Bool) (k : ℕ) → k < length bs → get_or bs k true ≡ false → undone (set bs k true) + 1 ≤ undone bs
undone_less [] k lt off = absurd (omega arith)
undone_less (b ∷ bs) zero lt off = rw off (omega arith)
undone_less (b ∷ bs) (suc k) lt off = omega (arith, undone_less bs k (omega arith) off)

-- which default is taken doesn't matter below the length
pub any_default : {X : Type 0} (xs : List X) (k : ℕ) (d e : X) → k < length xs → get_or xs k d ≡ get_or xs k e
any_default [] k d e lt = absurd (omega arith)
any_default (x ∷ xs) zero d e lt = refl
any_default (x ∷ xs) (suc k) d e lt = any_default xs k d e (omega arith)

-- of a table that is filled up to a place, the next is filled
pub filled_more : {X : Type 0} (f : ℕ → X) (xs : List X) (at : ℕ) (x : X) → at < length xs → x ≡ f at → ((k : ℕ) (e : X) → k < at → get_or xs k e ≡ f k) → (k : ℕ) (e : X) → k < at + 1 → get_or (set xs at x) k e ≡ f k
filled_more f xs at x lt is before k e within =
    elim (cases_eq k at) [
      | inl same ↦ ap (λ n. get_or (set xs at x) n e) same ∙ get_or-set_same xs at x e lt ∙ is ∙ ap f (sym same)
      | inr other ↦ get_or-set_other xs at k x e other ∙ before k e (omega (arith, within, other))
    ]

-- a list with a place has an element
pub some_item : {X : Type 0} (xs : List X) (k : ℕ) → k < length xs → X
some_item [] k lt = absurd (omega arith)
some_item (x ∷ xs) k lt = x

-- the front of equal marks has these
pub all_replicate : (x : Bool) (n : ℕ) → AllByRecursion (λ b. b ≡ x) (replicate n x)
all_replicate x zero = tt
all_replicate x (suc n) = (refl, all_replicate x n)

pub front_is : (x : Bool) (xs : List Bool) → AllByRecursion (λ b. b ≡ x) xs → (n k : ℕ) (d : Bool) → k < length (take n xs) → get_or (take n xs) k d ≡ x
front_is x [] all zero k d lt = absurd (omega arith)
front_is x [] all (suc n) k d lt = absurd (omega arith)
front_is x (b ∷ bs) all zero k d lt = absurd (omega arith)
front_is x (b ∷ bs) all (suc n) zero d lt = all.0
front_is x (b ∷ bs) all (suc n) (suc k) d lt = front_is x bs all.1 n k d (omega arith)

module _ (conf : Configuration) (at : ℕ) where
  pub dp_at : (k : ℕ) (d : Dp) → k < length conf.dps → IsDp conf (get_or conf.dps k d).id
  dp_at k d lt = record { dp = get_or conf.dps k d; here = (k, lt, at_place conf.dps k d lt); id_is = refl }

  -- ---- at the start one is marked

  pub first_joined : (seen : List Bool) → length seen ≡ length conf.dps → ((k : ℕ) → k < length seen → get_or seen k false ≡ false) → (k : ℕ) (d : Dp) → k < length conf.dps → get_or (set seen at true) k false ≡ true → IsJoined conf (get_or conf.dps at d).id (get_or conf.dps k d).id
  first_joined seen len none k d lt marked =
      elim (cases_eq k at) [
        | inl same ↦ let here : IsDp conf (get_or conf.dps at d).id = subst (λ n. IsDp conf (get_or conf.dps n d).id) same (dp_at k d lt) in
            (0, (here, ap (λ n. (get_or conf.dps n d).id) (sym same)))
        | inr other ↦ absurd (both_ways (get_or seen k false) (none k (rw len lt)) (sym (get_or-set_other seen at k true false other) ∙ marked))
      ]

  pub none_followed : {P : Type 0} (done : List Bool) → length done ≡ length conf.dps → ((k : ℕ) → k < length done → get_or done k true ≡ false) → (k : ℕ) → k < length conf.dps → get_or done k true ≡ true → P
  none_followed done len none k lt marked = absurd (both_ways (get_or done k true) (none k (rw len lt)) marked)

  -- ---- a step follows the links of one

  module _ (dps : List Dp) (is : dps ≡ conf.dps) (seen seen' done : List Bool) (place : ℕ) (e : Dp) (within : place < length conf.dps) (e_is : e ≡ get_or dps place e) (chosen : get_or seen place false ≡ true)
      (marks : (k : ℕ) (d : Dp) → k < length dps → get_or seen' k false ≡ (get_or seen k false || leads_to e (get_or dps k d).id)) where
    marks_conf : (k : ℕ) (d : Dp) → k < length conf.dps → get_or seen' k false ≡ (get_or seen k false || leads_to e (get_or conf.dps k d).id)
    marks_conf = subst (λ (xs : List Dp). (k : ℕ) (d : Dp) → k < length xs → get_or seen' k false ≡ (get_or seen k false || leads_to e (get_or xs k d).id)) is marks

    e_conf : (d : Dp) → get_or conf.dps place d ≡ e
    e_conf d = any_default conf.dps place d e within ∙ sym (e_is ∙ ap (λ (xs : List Dp). get_or xs place e) is)

    pub stays : (k : ℕ) (d : Dp) → k < length conf.dps → get_or seen k false ≡ true → get_or seen' k false ≡ true
    stays k d lt marked = marks_conf k d lt ∙ or_left (get_or seen k false) (leads_to e (get_or conf.dps k d).id) marked

    pub more_followed : ((k j : ℕ) (d : Dp) → k < length conf.dps → j < length conf.dps → get_or done k true ≡ true → leads_to (get_or conf.dps k d) (get_or conf.dps j d).id ≡ true → get_or seen j false ≡ true)
        → (k j : ℕ) (d : Dp) → k < length conf.dps → j < length conf.dps → get_or (set done place true) k true ≡ true → leads_to (get_or conf.dps k d) (get_or conf.dps j d).id ≡ true → get_or seen' j false ≡ true
    more_followed before k j d lt_k lt_j followed leads =
        elim (cases_eq k place) [
          | inl same ↦
              let here : leads_to e (get_or conf.dps j d).id ≡ true = subst (λ (x : Dp). leads_to x (get_or conf.dps j d).id ≡ true) (ap (λ n. get_or conf.dps n d) same ∙ e_conf d) leads in
              marks_conf j d lt_j ∙ or_right (get_or seen j false) (leads_to e (get_or conf.dps j d).id) here
          | inr other ↦ stays j d lt_j (before k j d lt_k lt_j (sym (get_or-set_other done place k true true other) ∙ followed) leads)
        ]

    pub more_joined : ((k : ℕ) (d : Dp) → k < length conf.dps → get_or seen k false ≡ true → IsJoined conf (get_or conf.dps at d).id (get_or conf.dps k d).id)
        → (k : ℕ) (d : Dp) → k < length conf.dps → get_or seen' k false ≡ true → IsJoined conf (get_or conf.dps at d).id (get_or conf.dps k d).id
    more_joined before k d lt marked =
        elim (or_cases (get_or seen k false) (leads_to e (get_or conf.dps k d).id) (sym (marks_conf k d lt) ∙ marked)) [
          | inl old ↦ before k d lt old
          | inr leads ↦
              let from = get_or conf.dps place d in
              let way : IsJoined conf (get_or conf.dps at d).id from.id = before place d within chosen in
              let link : IsLinked conf from.id (get_or conf.dps k d).id =
              leads_from_test conf from (get_or conf.dps k d).id (place, within, at_place conf.dps place d within) (subst (λ (x : Dp). leads_to x (get_or conf.dps k d).id ≡ true) (sym (e_conf d)) leads) in
              (suc way.0, extend conf (get_or conf.dps at d).id from.id (get_or conf.dps k d).id way.0 way.1 link (dp_at k d lt))
        ]

-- where a walk begins there is a datapath
begins : (conf : Configuration) (n : ℕ) (c b : DpId) → Walk conf c b n → IsDp conf c
begins conf zero c b w = w.0
begins conf (suc n) c b w = record { dp = w.1.dp; here = w.1.here; id_is = w.1.id_is }

module _ (conf : Configuration) (distinct : EachBefore (λ (d : Dp) (e : Dp). d.id.0 ≡ e.id.0 → ⊥) conf.dps) where
  -- one identifier has one place
  same_place : (i j : ℕ) (d : Dp) → i < length conf.dps → j < length conf.dps → (get_or conf.dps i d).id.0 ≡ (get_or conf.dps j d).id.0 → i ≡ j
  same_place i j d lt_i lt_j same =
      elim (cases_order i j) [
        | inl equal ↦ equal
        | inr apart ↦ elim apart [
          | inl less ↦ absurd (before_at (λ (d : Dp) (e : Dp). d.id.0 ≡ e.id.0 → ⊥) conf.dps distinct i j d less lt_j same)
          | inr more ↦ absurd (before_at (λ (d : Dp) (e : Dp). d.id.0 ≡ e.id.0 → ⊥) conf.dps distinct j i d more lt_i (sym same))
        ]
      ]

  module _ (at : ℕ) (seen : List Bool) (d : Dp) (within : at < length conf.dps) (marked : AreMarked conf at seen) where
    -- a walk that begins at a marked one ends at a marked one
    walked : (n : ℕ) (k : ℕ) (b : DpId) → k < length conf.dps → get_or seen k false ≡ true → Walk conf (get_or conf.dps k d).id b n → (j : ℕ) × (j < length conf.dps) × (get_or seen j false ≡ true) × ((get_or conf.dps j d).id ≡ b)
    walked zero k b lt here w = (k, lt, here, w.1)
    walked (suc n) k b lt here w =
        let link : IsLinked conf (get_or conf.dps k d).id w.0 = w.1 in
        let next : IsDp conf w.0 = begins conf n w.0 b w.2 in
        let i = link.here.0 in
        let j = next.here.0 in
        let from : get_or conf.dps i d ≡ link.dp = any_default conf.dps i d link.dp link.here.1 ∙ link.here.2 in
        let to : get_or conf.dps j d ≡ next.dp = any_default conf.dps j d next.dp next.here.1 ∙ next.here.2 in
        let to_id : (get_or conf.dps j d).id ≡ w.0 = ap (λ (x : Dp). x.id) to ∙ next.id_is in
        let one : k ≡ i = same_place k i d lt link.here.1 (ap (λ (x : DpId). x.0) (sym (ap (λ (x : Dp). x.id) from ∙ link.id_is))) in
        let leads : leads_to (get_or conf.dps i d) (get_or conf.dps j d).id ≡ true =
        subst (λ (x : Dp). leads_to x (get_or conf.dps j d).id ≡ true) (sym from) (subst (λ x. leads_to link.dp x ≡ true) (sym to_id) (test_from_link conf (get_or conf.dps k d).id w.0 link)) in
        let there : get_or seen j false ≡ true = marked.closed i j d link.here.1 next.here.1 (subst (λ n. get_or seen n false ≡ true) one here) leads in
        walked n j b next.here.1 there (subst (λ x. Walk conf x b n) (sym to_id) w.2)

    -- the least of the marked ones is the number of the group
    pub least_is_group : (best : ℕ) → best < length conf.dps → get_or seen best false ≡ true
        → ((k : ℕ) (d : Dp) → k < length conf.dps → get_or seen k false ≡ true → (get_or conf.dps best d).id.0 ≤ (get_or conf.dps k d).id.0)
        → (get_or conf.dps best d).id ≡ group_of conf (get_or conf.dps at d).id
    least_is_group best lt here least =
        let a = (get_or conf.dps at d).id in
        let group = group_is conf a (dp_at conf at at d within) in
        let found = walked group.joined.0 at (group_of conf a) within marked.start group.joined.1 in
        let low : (get_or conf.dps best d).id.0 ≤ (group_of conf a).0 = subst (λ (x : DpId). (get_or conf.dps best d).id.0 ≤ x.0) found.3 (least found.0 d found.1 found.2) in
        let high : (group_of conf a).0 ≤ (get_or conf.dps best d).id.0 = group.least (get_or conf.dps best d).id (marked.joined best d lt here) in
        same_id (get_or conf.dps best d).id (group_of conf a) (omega arith)
