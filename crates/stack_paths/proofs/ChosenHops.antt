-- The next hop, the uplink and the tree ports as functions give what the relations ask.
use Rattle.std.proofs.Common.{◌≡◌, ℕ, zero, suc, ◌<◌, ◌≤◌, ◌==◌, ◌&&◌, Bool, true, false, cond, Some, None, Option, List, [], ◌∷◌, get_or, filter, nat_lt, refl, inl, inr, sym, ap, ◌∙◌, arith, subst, ⊎_elim}
use Rattle.std.specs.Prelude.{◌⊎◌, ◌↔◌, Contains, IfSome, IfNone, slice_get, is_some}
use Rattle.std.specs.List.{list_any}
use Rattle.std.specs.Option.{option_map_or}
use Rattle.std.proofs.lemmas.Bool.{eqb-true, eq-eqb, ltb-true, ltb-false, lt-ltb, cases_Bool, cases_lt, or_cases, or_left, or_right, and_parts, and_from, both_ways}
use Rattle.std.proofs.lemmas.Option.{same_Some, none-some, slice_get-get_or}
use Rattle.net_base.specs.declared.stack.Node.{Node}
use Rattle.net_base.specs.declared.numbers.DpId.{DpId}
use Rattle.stack_paths.specs.Stack.{Stack, ids, IsAt, IsNode, HasLink, IsStack, Walk, IsJoined, IsDistance, LeadsNearer, ChosenBefore, IsHop, IsNextHop, LessPriority, RanksFirst, IsRoot, IsUplink, IsTreePort}
use Rattle.stack_paths.specs.Chosen.{Step, steps, is_same_dp, distance_of, first_in, place_of, is_below, is_one_more, leads_nearer, is_chosen_before, hop_link, hop_of, ranks_before, is_root_before, root_of, uplink_of, is_end_of, is_tree_port}
use Rattle.stack_paths.proofs.Finite.{contains_here, contains_there, contains_cons}
use Rattle.stack_paths.proofs.Places.{ids-at, ids-node, ids-within, place_same}
use Rattle.stack_paths.proofs.Walks.{link_ends, walk_start}
use Rattle.stack_paths.proofs.Firsts.{hop_same, root_same}
use Rattle.stack_paths.proofs.LawLemmas.{steps_sound, steps_complete, distance_exists, before_trans}
use Rattle.stack_paths.proofs.ChosenWalks.{same_dp, dp_same, any_found, any_here, distance_found, distance_here}

-- ---- the first of a list

first_there : {X : Type 0} (before : X → X → Bool) (xs : List X) (y : X) → Contains xs y → first_in before xs ≡ None → ⊥
first_there before [] y c e = omega (arith, c.1)
first_there before (x ∷ xs) y c e = none-some _ (sym e)

module _ {X : Type 0} (before : X → X → Bool) (P : X → Type 0) (R : X → X → Type 0) (goes : (x y : X) → P x → P y → before x y ≡ true → R x y) (stays : (x y : X) → P x → P y → before x y ≡ false → R y x) (itself : (x : X) → P x → R x x) (trans : (x y z : X) → R x y → R y z → R x z) where
  first_found : (xs : List X) (x : X) → ((y : X) → Contains xs y → P y) → first_in before xs ≡ Some x → Contains xs x × ((y : X) → Contains xs y → R x y)
  first_found [] x p e = absurd (none-some x e)
  first_found (z ∷ zs) x p e = elim (first_in before zs) as (λ o. first_in before zs ≡ o → Some (option_map_or (λ y. cond (before y z) y z) o z) ≡ Some x → Contains (z ∷ zs) x × ((y : X) → Contains (z ∷ zs) y → R x y)) [
    | None ↦ λ none e'. let same : z ≡ x = same_Some z x e' in (
      subst (λ w. Contains (z ∷ zs) w) same (contains_here z zs),
      λ w c. ⊎_elim
          (λ (is : z ≡ w). subst (λ v. R v w) same (subst (R z) is (itself z (p z (contains_here z zs)))))
          (λ c'. absurd (first_there before zs w c' none))
          (contains_cons z w zs c),
    )
    | Some y ↦ λ some e'.
        let rest = first_found zs y (λ w c. p w (contains_there z w zs c)) some in
        let here = p z (contains_here z zs) in
        let later = p y (contains_there z y zs rest.0) in
        elim (cases_Bool (before y z)) [
          | inl first ↦
              let same : y ≡ x = same_Some y x (rw first at e') in (
                subst (λ w. Contains (z ∷ zs) w) same (contains_there z y zs rest.0),
                λ w c. subst (λ v. R v w) same (⊎_elim (λ (is : z ≡ w). subst (R y) is (goes y z later here first)) (λ c'. rest.1 w c') (contains_cons z w zs c)),
              )
          | inr last ↦
              let same : z ≡ x = same_Some z x (rw last at e') in (
                subst (λ w. Contains (z ∷ zs) w) same (contains_here z zs),
                λ w c. subst (λ v. R v w) same (⊎_elim (λ (is : z ≡ w). subst (R z) is (itself z here)) (λ c'. trans z y w (stays y z later here last) (rest.1 w c')) (contains_cons z w zs c)),
              )
        ]
  ] refl e

module _ {X : Type 0} (t : X → Bool) where
  filter_sound : (xs : List X) (x : X) → Contains (filter t xs) x → Contains xs x × (t x ≡ true)
  filter_sound [] x c = absurd (omega (arith, c.1))
  filter_sound (z ∷ zs) x c = elim (t z) as (λ b. t z ≡ b → Contains (cond b (z ∷ filter t zs) (filter t zs)) x → Contains (z ∷ zs) x × (t x ≡ true)) [
    | true ↦ λ passes c'. ⊎_elim
        (λ (same : z ≡ x). (subst (λ w. Contains (z ∷ zs) w) same (contains_here z zs), subst (λ w. t w ≡ true) same passes))
        (λ c''. let rest = filter_sound zs x c'' in (contains_there z x zs rest.0, rest.1))
        (contains_cons z x (filter t zs) c')
    | false ↦ λ fails c'. let rest = filter_sound zs x c' in (contains_there z x zs rest.0, rest.1)
  ] refl c

  filter_complete : (xs : List X) (x : X) → Contains xs x → t x ≡ true → Contains (filter t xs) x
  filter_complete [] x c e = absurd (omega (arith, c.1))
  filter_complete (z ∷ zs) x c e = elim (t z) as (λ b. t z ≡ b → Contains (cond b (z ∷ filter t zs) (filter t zs)) x) [
    | true ↦ λ passes. ⊎_elim
        (λ (same : z ≡ x). subst (λ w. Contains (z ∷ filter t zs) w) same (contains_here z (filter t zs)))
        (λ c'. contains_there z x (filter t zs) (filter_complete zs x c' e))
        (contains_cons z x zs c)
    | false ↦ λ fails. ⊎_elim
        (λ (same : z ≡ x). absurd (both_ways (t z) fails (subst (λ w. t w ≡ true) (sym same) e)))
        (λ c'. filter_complete zs x c' e)
        (contains_cons z x zs c)
  ] refl

-- ---- orders

below_true : (i p j q : ℕ) → is_below i p j q ≡ true → (i < j) ⊎ ((i ≡ j) × (p ≤ q))
below_true i p j q e = ⊎_elim
    (λ l. inl (ltb-true i j l))
    (λ r. let parts = and_parts (i == j) (nat_lt p q) r in inr (eqb-true i j parts.0, omega (arith, ltb-true p q parts.1)))
    (or_cases (nat_lt i j) (i == j && nat_lt p q) e)

below_false : (i p j q : ℕ) → is_below i p j q ≡ false → (j < i) ⊎ ((j ≡ i) × (q ≤ p))
below_false i p j q e = ⊎_elim
    (λ (less : j < i). inl less)
    (λ (more : i ≤ j). ⊎_elim
    (λ (less : i < j). absurd (both_ways (is_below i p j q) e (or_left (nat_lt i j) (i == j && nat_lt p q) (lt-ltb i j less))))
    (λ (back : j ≤ i).
    let same : i ≡ j = omega (arith, more, back) in
    ⊎_elim
    (λ (less : p < q). absurd (both_ways (is_below i p j q) e (or_right (nat_lt i j) (i == j && nat_lt p q) (and_from (i == j) (nat_lt p q) (eq-eqb i j same) (lt-ltb p q less)))))
    (λ (rest : q ≤ p). inr (sym same, rest))
    (cases_lt p q))
    (cases_lt i j))
    (cases_lt j i)

ranks_true : (p : Option ℕ) (i : ℕ) (q : Option ℕ) (j : ℕ) → ranks_before p i q j ≡ true → RanksFirst p i q j
ranks_true (Some p) i (Some q) j e = ⊎_elim (λ (l : p < q). inl l) (λ (r : (p ≡ q) × (i ≤ j)). inr (ap Some r.0, r.1)) (below_true p i q j e)
ranks_true (Some p) i None j e = inl tt
ranks_true None i (Some q) j e = absurd (both_ways false refl e)
ranks_true None i None j e = inr (refl, omega (arith, ltb-true i j e))

ranks_false : (p : Option ℕ) (i : ℕ) (q : Option ℕ) (j : ℕ) → ranks_before p i q j ≡ false → RanksFirst q j p i
ranks_false (Some p) i (Some q) j e = ⊎_elim (λ (l : q < p). inl l) (λ (r : (q ≡ p) × (j ≤ i)). inr (ap Some r.0, r.1)) (below_false p i q j e)
ranks_false (Some p) i None j e = absurd (both_ways true e refl)
ranks_false None i (Some q) j e = inl tt
ranks_false None i None j e = inr (refl, ltb-false i j e)

less_trans : (p q r : Option ℕ) → LessPriority p q → LessPriority q r → LessPriority p r
less_trans (Some p) (Some q) (Some r) x y = omega (arith, x, y)
less_trans (Some p) (Some q) None x y = tt
less_trans (Some p) None r x y = absurd y
less_trans None q r x y = absurd x

ranks_trans : (p q r : Option ℕ) (i j k : ℕ) → RanksFirst p i q j → RanksFirst q j r k → RanksFirst p i r k
ranks_trans p q r i j k x y = ⊎_elim
    (λ (a : LessPriority p q). ⊎_elim (λ (b : LessPriority q r). inl (less_trans p q r a b)) (λ (b : (q ≡ r) × (j ≤ k)). inl (subst (LessPriority p) b.0 a)) y)
    (λ (a : (p ≡ q) × (i ≤ j)). ⊎_elim (λ (b : LessPriority q r). inl (subst (λ o. LessPriority o r) (sym a.0) b)) (λ (b : (q ≡ r) × (j ≤ k)). inr (a.0 ∙ b.0, omega (arith, a.1, b.1))) y)
    x

place_at : (nodes : List Node) (d : DpId) (i : ℕ) → slice_get (ids nodes) i ≡ Some d → slice_get (ids nodes) (place_of nodes d) ≡ Some d
place_at [] d i e = absurd (none-some d e)
place_at (m ∷ nodes) d zero e = rw (dp_same m.id d (same_Some m.id d e)) e
place_at (m ∷ nodes) d (suc i) e = elim (is_same_dp m.id d) as (λ b. is_same_dp m.id d ≡ b → slice_get (ids (m ∷ nodes)) (cond b 0 (suc (place_of nodes d))) ≡ Some d) [
  | true ↦ λ here. ap Some (same_dp m.id d here)
  | false ↦ λ later. place_at nodes d i e
] refl

one_more : (m n : Option ℕ) → is_one_more m n ≡ true → (k : ℕ) × (m ≡ Some (suc k)) × (n ≡ Some k)
one_more (Some m) (Some n) e = (n, ap Some (eqb-true m (suc n) e), refl)
one_more (Some m) None e = absurd (both_ways false refl e)
one_more None n e = absurd (both_ways false refl e)

-- ---- the next hop

module _ (s : Stack) (is : IsStack s) where
  at_place : (d : DpId) → IsNode s d → IsAt s (place_of s.nodes d) d
  at_place d node = place_at s.nodes d node.0 node.1

  module _ (a b : DpId) where
    candidates : List Step
    candidates = filter (leads_nearer s a b) (steps s.links)

    -- a candidate leads from a one nearer
    is_nearer : (t : Step) → Contains candidates t → (t.near ≡ a) × LeadsNearer s a b t.port t.far t.far_port
    unfolding candidates leads_nearer
    is_nearer t c =
        let found = filter_sound (leads_nearer s a b) (steps s.links) t c in
        let parts = and_parts (is_same_dp t.near a) (is_one_more (distance_of s a b) (distance_of s t.far b)) found.1 in
        let near = same_dp t.near a parts.0 in
        let more = one_more (distance_of s a b) (distance_of s t.far b) parts.1 in
        let link : HasLink s t.near t.port t.far t.far_port = steps_sound s.links t found.0 in (
          near,
          record {
            rest = more.0;
            link = subst (λ x. HasLink s x t.port t.far t.far_port) near link;
            from_here = distance_found s a b (suc more.0) more.1;
            from_there = distance_found s t.far b more.0 more.2;
          },
        )

    -- and each way one nearer is a candidate
    is_candidate : (p : ℕ) (e : DpId) (q : ℕ) → LeadsNearer s a b p e q → (t : Step) × Contains candidates t × (t.port ≡ p) × (t.far ≡ e)
    unfolding candidates leads_nearer
    is_candidate p e q near =
        let t = steps_complete s.links near.link.0 near.link.1 a p e q near.link.2 in
        let here = distance_here s is a b (suc near.rest) near.from_here in
        let there = distance_here s is t.0.far b near.rest (subst (λ x. IsDistance s x b near.rest) (sym t.4) near.from_there) in
        (t.0, filter_complete (leads_nearer s a b) (steps s.links) t.0 t.1 (and_from (is_same_dp t.0.near a) (is_one_more (distance_of s a b) (distance_of s t.0.far b)) (dp_same t.0.near a t.2) (rw (here, there) (eq-eqb (suc near.rest) (suc near.rest) refl))), t.3, t.4)

    chosen : (t : Step) → first_in (is_chosen_before s) candidates ≡ Some t → Contains candidates t × ((u : Step) → Contains candidates u → ChosenBefore s t.far t.port u.far u.port)
    chosen t e = first_found (is_chosen_before s) (λ t. IsNode s t.far) (λ t u. ChosenBefore s t.far t.port u.far u.port)
        (λ t u x y e. (place_of s.nodes t.far, place_of s.nodes u.far, at_place t.far x, at_place u.far y, below_true (place_of s.nodes t.far) t.port (place_of s.nodes u.far) u.port e))
        (λ t u x y e. (place_of s.nodes u.far, place_of s.nodes t.far, at_place u.far y, at_place t.far x, below_false (place_of s.nodes t.far) t.port (place_of s.nodes u.far) u.port e))
        (λ t x. (place_of s.nodes t.far, place_of s.nodes t.far, at_place t.far x, at_place t.far x, inr (refl, omega arith)))
        (λ t u v. before_trans s is t.far u.far v.far t.port u.port v.port)
        candidates t
        (λ u c. let near = is_nearer u c in (link_ends s is a u.port u.far u.far_port near.1.link).1)
        e

    pub hop_found : (t : Step) → hop_link s a b ≡ Some t → (t.near ≡ a) × IsHop s a b t.port t.far t.far_port
    unfolding hop_link candidates
    hop_found t e =
        let first = chosen t e in
        let near = is_nearer t first.0 in (
          near.0,
          record {
            nearer = near.1;
            first = λ p' e' q' other.
                let u = is_candidate p' e' q' other in
                let before = first.1 u.0 u.1 in
                subst (λ x. ChosenBefore s t.far t.port x p') u.3 (subst (λ k. ChosenBefore s t.far t.port u.0.far k) u.2 before);
          },
        )

    no_hop : (p : ℕ) (e : DpId) (q : ℕ) → IsHop s a b p e q → hop_link s a b ≡ None → ⊥
    unfolding hop_link candidates
    no_hop p e q hop none = let t = is_candidate p e q hop.nearer in first_there (is_chosen_before s) candidates t.0 t.1 none

    pub hop_here : (p : ℕ) (e : DpId) (q : ℕ) → IsHop s a b p e q → (t : Step) × (hop_link s a b ≡ Some t) × (t.near ≡ a) × (t.port ≡ p) × (t.far ≡ e) × (t.far_port ≡ q)
    hop_here p e q hop = elim (hop_link s a b) as (λ o. hop_link s a b ≡ o → (t : Step) × (o ≡ Some t) × (t.near ≡ a) × (t.port ≡ p) × (t.far ≡ e) × (t.far_port ≡ q)) [
      | None ↦ λ none. absurd (no_hop p e q hop none)
      | Some t ↦ λ some.
          let found = hop_found t some in
          let same = hop_same s is a b t.port p t.far e t.far_port q found.1 hop in
          (t, refl, found.0, same.0, same.1, same.2)
    ] refl

    pub next_hop_found : (p : ℕ) → hop_of s a b ≡ Some p → IsNextHop s a b p
    unfolding hop_of
    next_hop_found p e = elim (hop_link s a b) as (λ o. hop_link s a b ≡ o → IsNextHop s a b p) [
      | None ↦ λ none. let is_none : None ≡ Some p = rw none at e in absurd (none-some p is_none)
      | Some t ↦ λ some.
          let same : t.port ≡ p = same_Some t.port p (rw some at e) in
          (t.far, t.far_port, subst (λ k. IsHop s a b k t.far t.far_port) same (hop_found t some).1)
    ] refl

    pub next_hop_here : (p : ℕ) → IsNextHop s a b p → hop_of s a b ≡ Some p
    unfolding hop_of
    next_hop_here p (e, q, hop) = let t = hop_here p e q hop in rw t.1 (ap Some t.3)

  -- ---- roots

  joined_found : (o : Option ℕ) → is_some o ≡ true → (n : ℕ) × (o ≡ Some n)
  joined_found (Some n) e = (n, refl)
  joined_found None e = absurd (both_ways false refl e)

  node_at : (m : Node) → Contains s.nodes m → slice_get s.nodes (place_of s.nodes m.id) ≡ Some m
  node_at m c =
      let at : slice_get s.nodes c.0 ≡ Some m = slice_get-get_or s.nodes c.0 m c.1 ∙ ap Some c.2 in
      let at_id : IsAt s c.0 m.id = ids-node s.nodes c.0 m at in
      let same : c.0 ≡ place_of s.nodes m.id = place_same s is c.0 (place_of s.nodes m.id) m.id at_id (at_place m.id (c.0, at_id)) in
      subst (λ k. slice_get s.nodes k ≡ Some m) same at

  abbrev Ranks : Node → Node → Type 0
  Ranks m n = RanksFirst m.priority (place_of s.nodes m.id) n.priority (place_of s.nodes n.id)

  module _ (d : DpId) where
    part : List Node
    part = filter (λ node. is_some (distance_of s node.id d)) s.nodes

    -- a datapath that is joined to d is of the part
    in_part : (e : DpId) → IsJoined s e d → (m : Node) × Contains part m × Contains s.nodes m × (m.id ≡ e)
    unfolding part
    in_part e joined =
        let node = walk_start s is joined.0 e d joined.1 in
        let x : Node = record { id = e; priority = None } in
        let within = ids-within s.nodes node.0 e node.1 in
        let m = get_or s.nodes node.0 x in
        let same : m.id ≡ e = ids-at s.nodes node.0 e node.1 x in
        let c : Contains s.nodes m = (node.0, within, same_Some (get_or s.nodes node.0 m) m (sym (slice_get-get_or s.nodes node.0 m within) ∙ slice_get-get_or s.nodes node.0 x within)) in
        let far = distance_exists s e d joined in
        let there = distance_here s is m.id d far.0 (subst (λ y. IsDistance s y d far.0) (sym same) far.1) in
        (m, filter_complete (λ node. is_some (distance_of s node.id d)) s.nodes m c (ap is_some there), c, same)

    first_of_part : (m : Node) → first_in (is_root_before s) part ≡ Some m → Contains part m × ((n : Node) → Contains part n → Ranks m n)
    first_of_part m e = first_found (is_root_before s) (λ n. Unit {0}) Ranks
        (λ m n x y e. ranks_true m.priority (place_of s.nodes m.id) n.priority (place_of s.nodes n.id) e)
        (λ m n x y e. ranks_false m.priority (place_of s.nodes m.id) n.priority (place_of s.nodes n.id) e)
        (λ m x. inr (refl, omega arith))
        (λ l m n. ranks_trans l.priority m.priority n.priority (place_of s.nodes l.id) (place_of s.nodes m.id) (place_of s.nodes n.id))
        part m (λ n c. tt) e

    root_found : (m : Node) → root_of s d ≡ Some m → IsRoot s d m.id
    unfolding root_of part
    root_found m e =
        let first = first_of_part m e in
        let found = filter_sound (λ node. is_some (distance_of s node.id d)) s.nodes m first.0 in
        let far = joined_found (distance_of s m.id d) found.1 in
        record {
          joined = (far.0, (distance_found s m.id d far.0 far.1).walk);
          first = λ e joined.
              let n = in_part e joined in
              record {
                i = place_of s.nodes m.id;
                j = place_of s.nodes n.0.id;
                m = m;
                n = n.0;
                at_i = node_at m found.0;
                at_j = node_at n.0 n.2;
                is_d = refl;
                is_e = n.3;
                ranks = first.1 n.0 n.1;
              };
        }

    no_root : (r : DpId) → IsRoot s d r → root_of s d ≡ None → ⊥
    unfolding root_of part
    no_root r root none = let m = in_part r root.joined in first_there (is_root_before s) part m.0 m.1 none

    root_here : (r : DpId) → IsRoot s d r → (m : Node) × (root_of s d ≡ Some m) × (m.id ≡ r)
    root_here r root = elim (root_of s d) as (λ o. root_of s d ≡ o → (m : Node) × (o ≡ Some m) × (m.id ≡ r)) [
      | None ↦ λ none. absurd (no_root r root none)
      | Some m ↦ λ some. (m, refl, root_same s is d m.id r (root_found m some) root)
    ] refl

    -- ---- uplinks

    uplink_found : (t : Step) → uplink_of s d ≡ Some t → (t.near ≡ d) × IsUplink s d t.port t.far t.far_port
    unfolding uplink_of
    uplink_found t e = elim (root_of s d) as (λ o. root_of s d ≡ o → (t.near ≡ d) × IsUplink s d t.port t.far t.far_port) [
      | None ↦ λ none. let is_none : None ≡ Some t = rw none at e in absurd (none-some t is_none)
      | Some m ↦ λ some.
          let hop = hop_found d m.id t (rw some at e) in
          (hop.0, record { root = m.id; is_root = root_found m some; hop = hop.1 })
    ] refl

    uplink_here : (p : ℕ) (e : DpId) (q : ℕ) → IsUplink s d p e q → (t : Step) × (uplink_of s d ≡ Some t) × (t.near ≡ d) × (t.port ≡ p) × (t.far ≡ e) × (t.far_port ≡ q)
    unfolding uplink_of
    uplink_here p e q up =
        let m = root_here up.root up.is_root in
        let t = hop_here d m.0.id p e q (subst (λ r. IsHop s d r p e q) (sym m.2) up.hop) in
        (t.0, rw m.1 t.1, t.2, t.3, t.4, t.5)

  -- ---- tree ports

  module _ (d : DpId) (p : ℕ) where
    end_found : (e : DpId) (t : Step) → (t.near ≡ e) × IsUplink s e t.port t.far t.far_port → is_end_of d p t ≡ true → IsTreePort s d p
    end_found e t (near, up) ends = ⊎_elim
        (λ l.
        let parts = and_parts (is_same_dp t.near d) (t.port == p) l in
        let same : e ≡ d = sym near ∙ same_dp t.near d parts.0 in
        (t.far, t.far_port, inl (subst (λ k. IsUplink s d k t.far t.far_port) (eqb-true t.port p parts.1) (subst (λ x. IsUplink s x t.port t.far t.far_port) same up))))
        (λ r.
        let parts = and_parts (is_same_dp t.far d) (t.far_port == p) r in
        (e, t.port, inr (subst (λ k. IsUplink s e t.port d k) (eqb-true t.far_port p parts.1) (subst (λ x. IsUplink s e t.port x t.far_port) (same_dp t.far d parts.0) up))))
        (or_cases (is_same_dp t.near d && t.port == p) (is_same_dp t.far d && t.far_port == p) ends)

    pub tree_port_found : is_tree_port s d p ≡ true → IsTreePort s d p
    unfolding is_tree_port
    tree_port_found e =
        let found = any_found (λ (node : Node). option_map_or (is_end_of d p) (uplink_of s node.id) false) s.nodes e in
        let id = found.0.id in
        elim (uplink_of s id) as (λ o. uplink_of s id ≡ o → option_map_or (is_end_of d p) o false ≡ true → IsTreePort s d p) [
          | None ↦ λ none ends. absurd (both_ways false refl ends)
          | Some t ↦ λ some ends. end_found id t (uplink_found id t some) ends
        ] refl found.2

    node_has : (e : DpId) (t : Step) → IsNode s e → uplink_of s e ≡ Some t → is_end_of d p t ≡ true → is_tree_port s d p ≡ true
    unfolding is_tree_port
    node_has e t node up ends =
        let x : Node = record { id = e; priority = None } in
        let m = get_or s.nodes node.0 x in
        let within = ids-within s.nodes node.0 e node.1 in
        let same : m.id ≡ e = ids-at s.nodes node.0 e node.1 x in
        let c : Contains s.nodes m = (node.0, within, same_Some (get_or s.nodes node.0 m) m (sym (slice_get-get_or s.nodes node.0 m within) ∙ slice_get-get_or s.nodes node.0 x within)) in
        any_here (λ (node : Node). option_map_or (is_end_of d p) (uplink_of s node.id) false) s.nodes m c
        (subst (λ y. option_map_or (is_end_of d p) (uplink_of s y) false ≡ true) (sym same) (rw up ends))

    pub tree_port_here : IsTreePort s d p → is_tree_port s d p ≡ true
    tree_port_here (e, q, either) = ⊎_elim
        (λ (up : IsUplink s d p e q).
        let t = uplink_here d p e q up in
        node_has d t.0 (link_ends s is d p e q up.hop.nearer.link).0 t.1
        (or_left (is_same_dp t.0.near d && t.0.port == p) (is_same_dp t.0.far d && t.0.far_port == p) (and_from (is_same_dp t.0.near d) (t.0.port == p) (dp_same t.0.near d t.2) (eq-eqb t.0.port p t.3))))
        (λ (up : IsUplink s e q d p).
        let t = uplink_here e q d p up in
        node_has e t.0 (link_ends s is e q d p up.hop.nearer.link).0 t.1
        (or_right (is_same_dp t.0.near d && t.0.port == p) (is_same_dp t.0.far d && t.0.far_port == p) (and_from (is_same_dp t.0.far d) (t.0.far_port == p) (dp_same t.0.far d t.4) (eq-eqb t.0.far_port p t.5))))
        either

-- an answer that is a next hop, and none only where there is no way, is that of the function
pub hop_exact : (s : Stack) → IsStack s → (a b : DpId) (o : Option ℕ) → IfSome o (λ p. IsNextHop s a b p) → IfNone o ((a ≡ b) ⊎ ((m : ℕ) → Walk s a b m → ⊥)) → o ≡ hop_of s a b
hop_exact s is a b (Some p) hop none = sym (next_hop_here s is a b p hop)
hop_exact s is a b None hop none = elim (hop_of s a b) as (λ o. hop_of s a b ≡ o → None ≡ o) [
  | None ↦ λ same. refl
  | Some p ↦ λ some.
      let near = (next_hop_found s is a b p some).2.nearer in
      absurd (⊎_elim
      (λ (same : a ≡ b). omega (arith, near.from_here.least 0 ((link_ends s is a p (next_hop_found s is a b p some).0 (next_hop_found s is a b p some).1 near.link).0, same)))
      (λ (no_walk : (m : ℕ) → Walk s a b m → ⊥). no_walk (suc near.rest) near.from_here.walk)
      none)
] refl

-- a list that has exactly the tree ports passes a port exactly where the test does
pub tree_exact : (s : Stack) → IsStack s → (d : DpId) (p : ℕ) (ports : List ℕ) → ((q : ℕ) → Contains ports q ↔ IsTreePort s d q) → list_any (λ q. q == p) ports ≡ is_tree_port s d p
tree_exact s is d p ports are = elim (cases_Bool (list_any (λ q. q == p) ports)) [
  | inl has ↦
      let found = any_found (λ q. q == p) ports has in
      let same : found.0 ≡ p = eqb-true found.0 p found.2 in
      has ∙ sym (tree_port_here s is d p ((are p).0 (subst (λ q. Contains ports q) same found.1)))
  | inr hasnt ↦ elim (cases_Bool (is_tree_port s d p)) [
    | inl is_one ↦ absurd (both_ways (list_any (λ q. q == p) ports) hasnt (any_here (λ q. q == p) ports p ((are p).1 (tree_port_found s is d p is_one)) (eq-eqb p p refl)))
    | inr is_none ↦ hasnt ∙ sym is_none
  ]
]
