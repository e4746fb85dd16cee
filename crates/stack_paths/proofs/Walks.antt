use Rattle.std.proofs.Common.{◌≡◌, ℕ, zero, suc, ◌<◌, ◌≤◌, List, get_or, Some, None, Option, sym, ◌∙◌, ap, subst, inl, inr, ⊎_elim, arith}
use Rattle.std.specs.Prelude.{Contains}
use Rattle.std.proofs.lemmas.Bool.{cases_lt}
use Rattle.std.proofs.lemmas.List.Elements.{All-contains}
use Rattle.std.proofs.lemmas.Option.{same_Some, none-some}
use Rattle.std.proofs.lemmas.List.{get_or_default}
use Rattle.net_base.specs.declared.stack.StackLink.{StackLink}
use Rattle.net_base.specs.declared.numbers.DpId.{DpId}
use Rattle.stack_paths.specs.declared.hops.Hop.{Hop}
use Rattle.stack_paths.specs.Stack.{Stack, IsAt, IsNode, IsEnd, Joins, HasLink, IsStack, Walk, IsDistance}
use Rattle.stack_paths.specs.Hops.{answer_at, IsHops, WalkAt, AreDistances}
use Rattle.stack_paths.proofs.Places.{at_same, place_same}

module _ (s : Stack) (is : IsStack s) where
  -- both ends of a link are datapaths of the stack, and two different ones
  pub link_ends : (d : DpId) (p : ℕ) (e : DpId) (q : ℕ) → HasLink s d p e q → IsNode s d × IsNode s e × (d ≡ e → ⊥)
  link_ends d p e q (l, c, j) =
      let two = All-contains (λ (m : StackLink). IsNode s m.a × IsNode s m.b × (m.a ≡ m.b → ⊥)) s.links l is.between_two c in
      ⊎_elim
      (λ (x : (l.a ≡ d) × (l.a_port ≡ p) × (l.b ≡ e) × (l.b_port ≡ q)). (subst (IsNode s) x.0 two.0, subst (IsNode s) x.2 two.1, λ same. two.2 (x.0 ∙ same ∙ sym x.2)))
      (λ (x : (l.b ≡ d) × (l.b_port ≡ p) × (l.a ≡ e) × (l.a_port ≡ q)). (subst (IsNode s) x.0 two.1, subst (IsNode s) x.2 two.0, λ same. two.2 (x.2 ∙ sym same ∙ sym x.0)))
      j

  -- a walk begins and ends at datapaths of the stack
  pub walk_start : (n : ℕ) (a b : DpId) → Walk s a b n → IsNode s a
  walk_start zero a b w = w.0
  walk_start (suc n) a b (c, p, q, link, w) = (link_ends a p c q link).0

  pub walk_end : (n : ℕ) (a b : DpId) → Walk s a b n → IsNode s b
  walk_end zero a b w = subst (IsNode s) w.1 w.0
  walk_end (suc n) a b (c, p, q, link, w) = walk_end n c b w

  module _ (hops : List Hop) (are : IsHops s hops) where
    -- a walk by places is a walk
    pub walk_from_places : (n i t : ℕ) (a b : DpId) → IsAt s i a → IsAt s t b → WalkAt hops t i n → Walk s a b n
    walk_from_places zero i t a b at_a at_b w = ((i, at_a), at_same s t a b (subst (λ k. IsAt s k a) w at_a) at_b)
    walk_from_places (suc n) i t a b at_a at_b (h, c, from, w) =
        let x = are.sound h c in
        let here : x.0 ≡ a = at_same s i x.0 a (subst (λ k. IsAt s k x.0) from x.2) at_a in
        (x.1, h.port, h.far_port, subst (λ d. HasLink s d h.port x.1 h.far_port) here x.4, walk_from_places n h.to t x.1 b x.3 at_b w)

    -- and a walk is a walk by places
    pub walk_by_places : (n i t : ℕ) (a b : DpId) → IsAt s i a → IsAt s t b → Walk s a b n → WalkAt hops t i n
    walk_by_places zero i t a b at_a at_b w = place_same s is i t b (subst (IsAt s i) w.1 at_a) at_b
    walk_by_places (suc n) i t a b at_a at_b (d, p, q, link, w) =
        let h = are.complete a p d q link in
        (h.0, h.1, place_same s is h.0.from i a h.2 at_a, walk_by_places n h.0.to t d b h.3 at_b w)

    module _ (t : ℕ) (b : DpId) (at_b : IsAt s t b) (marks : List (Option ℕ)) (are_distances : AreDistances hops t marks) where
      -- what the search found is the distance
      pub distance_found : (i n : ℕ) (a : DpId) → IsAt s i a → answer_at marks i ≡ Some n → IsDistance s a b n
      distance_found i n a at_a e = record {
        walk = walk_from_places n i t a b at_a at_b (are_distances.walk i n e);
        least = λ m w.
            let found = are_distances.least i m (walk_by_places m i t a b at_a at_b w) in
            let same : n ≡ found.0 = same_Some n found.0 (sym e ∙ found.2) in
            omega (arith, same, found.1);
      }

      -- and the distance is found
      pub distance_is_found : (i n : ℕ) (a : DpId) → IsAt s i a → IsDistance s a b n → answer_at marks i ≡ Some n
      distance_is_found i n a at_a is_distance =
          let found = are_distances.least i n (walk_by_places n i t a b at_a at_b is_distance.walk) in
          let other = is_distance.least found.0 (walk_from_places found.0 i t a b at_a at_b (are_distances.walk i found.0 found.2)) in
          let same : found.0 ≡ n = omega (arith, found.1, other) in
          found.2 ∙ ap Some same

      -- where nothing is found there is no walk
      pub no_walk : (i m : ℕ) (a : DpId) → IsAt s i a → answer_at marks i ≡ None → Walk s a b m → ⊥
      no_walk i m a at_a e w =
          let found = are_distances.least i m (walk_by_places m i t a b at_a at_b w) in
          none-some found.0 (sym e ∙ found.2)

  -- a port is an end of one link
  pub link_same : (d : DpId) (p : ℕ) (l m : StackLink) → Contains s.links l → Contains s.links m → IsEnd l d p → IsEnd m d p → l ≡ m
  link_same d p l m c c' end_l end_m = ⊎_elim
      (λ (lt : c.0 < c'.0). absurd (is.ports_apart c.0 c'.0 l lt c'.1 d p (subst (λ (x : StackLink). IsEnd x d p) (sym c.2) end_l) (subst (λ (x : StackLink). IsEnd x d p) (sym (other l)) end_m)))
      (λ (ge : c'.0 ≤ c.0). ⊎_elim
      (λ (gt : c'.0 < c.0). absurd (is.ports_apart c'.0 c.0 l gt c.1 d p (subst (λ (x : StackLink). IsEnd x d p) (sym (other l)) end_m) (subst (λ (x : StackLink). IsEnd x d p) (sym c.2) end_l)))
      (λ (le : c.0 ≤ c'.0). let same : c.0 ≡ c'.0 = omega (arith, ge, le) in sym c.2 ∙ ap (λ k. get_or s.links k l) same ∙ other l)
      (cases_lt c'.0 c.0))
      (cases_lt c.0 c'.0) where
        other : (x : StackLink) → get_or s.links c'.0 x ≡ m
        other x = get_or_default s.links c'.0 x m c'.1 ∙ c'.2

  -- and so it leads to one far end
  pub far_end_same : (d : DpId) (p : ℕ) (e e' : DpId) (q q' : ℕ) → HasLink s d p e q → HasLink s d p e' q' → (e ≡ e') × (q ≡ q')
  far_end_same d p e e' q q' (l, c, j) (l', c', j') =
      let same = link_same d p l l' c c' (⊎_elim (λ x. inl (x.0, x.1)) (λ x. inr (x.0, x.1)) j) (⊎_elim (λ x. inl (x.0, x.1)) (λ x. inr (x.0, x.1)) j') in
      let j'' = subst (λ (x : StackLink). Joins x d p e' q') (sym same) j' in
      let two = All-contains (λ (m : StackLink). IsNode s m.a × IsNode s m.b × (m.a ≡ m.b → ⊥)) s.links l is.between_two c in
      ⊎_elim
      (λ (x : (l.a ≡ d) × (l.a_port ≡ p) × (l.b ≡ e) × (l.b_port ≡ q)). ⊎_elim
      (λ (y : (l.a ≡ d) × (l.a_port ≡ p) × (l.b ≡ e') × (l.b_port ≡ q')). (sym x.2 ∙ y.2, sym x.3 ∙ y.3))
      (λ (y : (l.b ≡ d) × (l.b_port ≡ p) × (l.a ≡ e') × (l.a_port ≡ q')). absurd (two.2 (x.0 ∙ sym y.0)))
      j'')
      (λ (x : (l.b ≡ d) × (l.b_port ≡ p) × (l.a ≡ e) × (l.a_port ≡ q)). ⊎_elim
      (λ (y : (l.a ≡ d) × (l.a_port ≡ p) × (l.b ≡ e') × (l.b_port ≡ q')). absurd (two.2 (y.0 ∙ sym x.0)))
      (λ (y : (l.b ≡ d) × (l.b_port ≡ p) × (l.a ≡ e') × (l.a_port ≡ q')). (sym x.2 ∙ y.2, sym x.3 ∙ y.3))
      j'')
      j
