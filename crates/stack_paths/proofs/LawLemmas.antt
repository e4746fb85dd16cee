use Rattle.std.proofs.Common.{◌≡◌, ℕ, zero, suc, ◌<◌, ◌≤◌, List, [], ◌∷◌, Some, slice_get, refl, sym, ap, subst, inl, inr, ⊎_elim, arith}
use Rattle.std.specs.Prelude.{◌⊎◌, Contains}
use Rattle.std.proofs.lemmas.Bool.{cases_lt, cases_eq}
use Rattle.std.proofs.lemmas.Option.{same_Some, none-some}
use Rattle.net_base.specs.declared.stack.Node.{Node}
use Rattle.net_base.specs.declared.stack.StackLink.{StackLink}
use Rattle.net_base.specs.declared.numbers.DpId.{DpId}
use Rattle.stack_paths.specs.Chosen.{Step, forth, back, steps}
use Rattle.stack_paths.specs.Stack.{Stack, ids, IsNode, Joins, HasLink, IsStack, Walk, IsJoined, IsDistance, LeadsNearer, ChosenBefore, IsHop, IsRoot, IsUplink, Follows, IsTreePort}
use Rattle.stack_paths.proofs.Finite.{IsKnown, contains_here, contains_there, contains_cons, known_any, least_of, first_of_list}
use Rattle.stack_paths.proofs.Places.{place_same}
use Rattle.stack_paths.proofs.Walks.{link_ends, walk_start}
use Rattle.stack_paths.proofs.Firsts.{root_same, hop_same}

-- a link leads both ways
pub link_back : (s : Stack) (d : DpId) (p : ℕ) (e : DpId) (q : ℕ) → HasLink s d p e q → HasLink s e q d p
link_back s d p e q (l, c, j) = (
  l,
  c,
  ⊎_elim
      (λ (x : (l.a ≡ d) × (l.a_port ≡ p) × (l.b ≡ e) × (l.b_port ≡ q)). inr (x.2, x.3, x.0, x.1))
      (λ (x : (l.b ≡ d) × (l.b_port ≡ p) × (l.a ≡ e) × (l.a_port ≡ q)). inl (x.2, x.3, x.0, x.1))
      j,
)

-- two distances are the same
pub distance_same : (s : Stack) (a b : DpId) (m n : ℕ) → IsDistance s a b m → IsDistance s a b n → m ≡ n
distance_same s a b m n x y = omega (arith, x.least n y.walk, y.least m x.walk)

pub joined_trans : (s : Stack) (n : ℕ) (a b c : DpId) → Walk s a b n → IsJoined s b c → IsJoined s a c
joined_trans s zero a b c w on = subst (λ x. IsJoined s x c) (sym w.1) on
joined_trans s (suc n) a b c (d, p, q, link, w) on = let rest = joined_trans s n d b c w on in (suc rest.0, (d, p, q, link, rest.1))

-- equality of identifiers, and whether there is a datapath, are known
known_same : (d e : DpId) → IsKnown (d ≡ e)
known_same d e = ⊎_elim
    (λ (same : d.0 ≡ e.0). inl (ap (λ (n : ℕ). let x : DpId = record { 0 = n } in x) same))
    (λ (apart : d.0 ≡ e.0 → ⊥). inr (λ same. apart (ap (λ (x : DpId). x.0) same)))
    (cases_eq d.0 e.0)

known_at : (nodes : List Node) (d : DpId) → IsKnown ((i : ℕ) × (slice_get (ids nodes) i ≡ Some d))
known_at [] d = inr (λ (i, e). none-some d e)
known_at (m ∷ nodes) d = ⊎_elim
    (λ same. inl (zero, ap Some same))
    (λ apart. ⊎_elim
    (λ rest. inl (suc rest.0, rest.1))
    (λ none. inr (λ (i, e). absent apart none i e))
    (known_at nodes d))
    (known_same m.id d) where
      absent : (m.id ≡ d → ⊥) → ((i : ℕ) × (slice_get (ids nodes) i ≡ Some d) → ⊥) → (i : ℕ) → slice_get (ids (m ∷ nodes)) i ≡ Some d → ⊥
      absent apart none zero e = apart (same_Some m.id d e)
      absent apart none (suc i) e = none (i, e)

-- the link is a step from a towards b, with n links left
IsStep : Stack → DpId → DpId → ℕ → StackLink → Type 0
IsStep s a b n l = ((l.a ≡ a) × Walk s l.b b n) ⊎ ((l.b ≡ a) × Walk s l.a b n)

known_both : {P Q : Type 0} → IsKnown P → IsKnown Q → IsKnown (P × Q)
known_both p q = ⊎_elim (λ x. ⊎_elim (λ y. inl (x, y)) (λ no. inr (λ z. no z.1)) q) (λ no. inr (λ z. no z.0)) p

known_either : {P Q : Type 0} → IsKnown P → IsKnown Q → IsKnown (P ⊎ Q)
known_either p q = ⊎_elim (λ x. inl (inl x)) (λ no_p. ⊎_elim (λ y. inl (inr y)) (λ no_q. inr (λ z. ⊎_elim no_p no_q z)) q) p

-- whether there is a walk of n links
pub known_walk : (s : Stack) (n : ℕ) (a b : DpId) → IsKnown (Walk s a b n)
unfolding IsStep
known_walk s zero a b = known_both (known_at s.nodes a) (known_same a b)
known_walk s (suc n) a b = ⊎_elim
    (λ found. inl (⊎_elim
    (λ (x : (found.0.a ≡ a) × Walk s found.0.b b n). (found.0.b, found.0.a_port, found.0.b_port, (found.0, found.1, inl (x.0, refl, refl, refl)), x.1))
    (λ (x : (found.0.b ≡ a) × Walk s found.0.a b n). (found.0.a, found.0.b_port, found.0.a_port, (found.0, found.1, inr (x.0, refl, refl, refl)), x.1))
    found.2))
    (λ none. inr (λ (d, p, q, (l, c, j), w). none (
      l,
      c,
      ⊎_elim
          (λ (x : (l.a ≡ a) × (l.a_port ≡ p) × (l.b ≡ d) × (l.b_port ≡ q)). inl (x.0, subst (λ y. Walk s y b n) (sym x.2) w))
          (λ (x : (l.b ≡ a) × (l.b_port ≡ p) × (l.a ≡ d) × (l.a_port ≡ q)). inr (x.0, subst (λ y. Walk s y b n) (sym x.2) w))
          j,
    )))
    (known_any (IsStep s a b n) (λ l. known_either (known_both (known_same l.a a) (known_walk s n l.b b)) (known_both (known_same l.b a) (known_walk s n l.a b))) s.links)

-- where there is a walk there is a distance
pub distance_exists : (s : Stack) (a b : DpId) → IsJoined s a b → (n : ℕ) × IsDistance s a b n
distance_exists s a b (m, w) =
    let least = least_of (λ n. Walk s a b n) (λ n. known_walk s n a b) m w in
    (least.0, record { walk = least.1; least = least.2 })

-- ---- links in one direction

pub steps_sound : (ls : List StackLink) (w : Step) → Contains (steps ls) w → (l : StackLink) × Contains ls l × Joins l w.near w.port w.far w.far_port
steps_sound [] w c = absurd (omega (arith, c.1))
steps_sound (l ∷ ls) w c = ⊎_elim
    (λ same. (l, contains_here l ls, subst (λ (x : Step). Joins l x.near x.port x.far x.far_port) same (inl (refl, refl, refl, refl))))
    (λ c'. ⊎_elim
    (λ same. (l, contains_here l ls, subst (λ (x : Step). Joins l x.near x.port x.far x.far_port) same (inr (refl, refl, refl, refl))))
    (λ c''. let rest = steps_sound ls w c'' in (rest.0, contains_there l rest.0 ls rest.1, rest.2))
    (contains_cons (back l) w (steps ls) c'))
    (contains_cons (forth l) w (back l ∷ steps ls) c)

pub steps_complete : (ls : List StackLink) (l : StackLink) → Contains ls l → (d : DpId) (p : ℕ) (e : DpId) (q : ℕ) → Joins l d p e q → (w : Step) × Contains (steps ls) w × (w.near ≡ d) × (w.port ≡ p) × (w.far ≡ e) × (w.far_port ≡ q)
steps_complete [] l c d p e q j = absurd (omega (arith, c.1))
steps_complete (x ∷ ls) l c d p e q j = ⊎_elim
    (λ (same : x ≡ l). ⊎_elim
    (λ (y : (x.a ≡ d) × (x.a_port ≡ p) × (x.b ≡ e) × (x.b_port ≡ q)). (forth x, contains_here (forth x) (back x ∷ steps ls), y.0, y.1, y.2, y.3))
    (λ (y : (x.b ≡ d) × (x.b_port ≡ p) × (x.a ≡ e) × (x.a_port ≡ q)). (back x, contains_there (forth x) (back x) (back x ∷ steps ls) (contains_here (back x) (steps ls)), y.0, y.1, y.2, y.3))
    (subst (λ (m : StackLink). Joins m d p e q) (sym same) j))
    (λ c'. let rest = steps_complete ls l c' d p e q j in (rest.0, contains_there (forth x) rest.0 (back x ∷ steps ls) (contains_there (back x) rest.0 (steps ls) rest.1), rest.2, rest.3, rest.4, rest.5))
    (contains_cons x l ls c)

module _ (s : Stack) (is : IsStack s) where
  -- a walk with one more link at its end
  walk_push : (n : ℕ) (a b : DpId) (p : ℕ) (c : DpId) (q : ℕ) → Walk s a b n → HasLink s b p c q → Walk s a c (suc n)
  walk_push zero a b p c q w link = (c, p, q, subst (λ x. HasLink s x p c q) (sym w.1) link, ((link_ends s is b p c q link).1, refl))
  walk_push (suc n) a b p c q (d, p', q', link', w) link = (d, p', q', link', walk_push n d b p c q w link)

  -- a walk leads back
  pub walk_back : (n : ℕ) (a b : DpId) → Walk s a b n → Walk s b a n
  walk_back zero a b w = (subst (IsNode s) w.1 w.0, sym w.1)
  walk_back (suc n) a b (c, p, q, link, w) = walk_push n b c q a p (walk_back n c b w) (link_back s a p c q link)

  pub joined_back : (a b : DpId) → IsJoined s a b → IsJoined s b a
  joined_back a b (n, w) = (n, walk_back n a b w)

  -- datapaths that are joined have the same root
  pub root_shared : (d e r : DpId) → IsJoined s d e → IsRoot s d r → IsRoot s e r
  root_shared d e r joined root = record {
    joined = joined_trans s root.joined.0 r d e root.joined.1 joined;
    first = λ x on. root.first x (joined_trans s on.0 x e d on.1 (joined_back d e joined));
  }

  pub before_trans : (e f g : DpId) (p q o : ℕ) → ChosenBefore s e p f q → ChosenBefore s f q g o → ChosenBefore s e p g o
  before_trans e f g p q o (i, j, at_i, at_j, x) (j', k, at_j', at_k, y) =
      let same : j ≡ j' = place_same s is j j' f at_j at_j' in (
        i,
        k,
        at_i,
        at_k,
        ⊎_elim
            (λ (a : i < j). ⊎_elim (λ (b : j' < k). inl (omega (arith, a, b, same))) (λ (b : (j' ≡ k) × (q ≤ o)). inl (omega (arith, a, b.0, same))) y)
            (λ (a : (i ≡ j) × (p ≤ q)). ⊎_elim (λ (b : j' < k). inl (omega (arith, a.0, b, same))) (λ (b : (j' ≡ k) × (q ≤ o)). inr (omega (arith, a.0, b.0, same), omega (arith, a.1, b.1))) y)
            x,
      )

  pub before_total : (e f : DpId) (p q : ℕ) → IsNode s e → IsNode s f → ChosenBefore s e p f q ⊎ ChosenBefore s f q e p
  before_total e f p q (i, at_i) (j, at_j) = ⊎_elim
      (λ (lt : i < j). inl (i, j, at_i, at_j, inl lt))
      (λ (ge : j ≤ i). ⊎_elim
      (λ (gt : j < i). inr (j, i, at_j, at_i, inl gt))
      (λ (le : i ≤ j). ⊎_elim
      (λ (lt : p < q). inl (i, j, at_i, at_j, inr (omega (arith, ge, le), omega (arith, lt))))
      (λ (ge' : q ≤ p). inr (j, i, at_j, at_i, inr (omega (arith, ge, le), ge')))
      (cases_lt p q))
      (cases_lt j i))
      (cases_lt i j)

  -- where the distance is above 0 there is a next hop
  pub hop_exists : (a b : DpId) (n : ℕ) → IsDistance s a b (suc n) → (p : ℕ) × (e : DpId) × (q : ℕ) × IsHop s a b p e q
  hop_exists a b n far = ⊎_elim
      (λ best. (
        best.0.port,
        best.0.far,
        best.0.far_port,
        record {
          nearer = near_of best.0 best.1 best.2;
          first = λ p e q near.
              let w = steps_complete s.links near.link.0 near.link.1 a p e q near.link.2 in
              let rest_is : suc near.rest ≡ suc n = distance_same s a b (suc near.rest) (suc n) near.from_here far in
              let rest_is' : near.rest ≡ n = omega (arith, rest_is) in
              let left : Walk s w.0.far b n = subst (λ x. Walk s x b n) (sym w.4) (subst (λ k. Walk s e b k) rest_is' near.from_there.walk) in
              let before = best.3 w.0 w.1 (w.2, left) in
              subst (λ x. ChosenBefore s best.0.far best.0.port x p) w.4 (subst (λ k. ChosenBefore s best.0.far best.0.port w.0.far k) w.3 before);
        },
      ))
      (λ none.
      let step = far.walk in
      let w = steps_complete s.links step.3.0 step.3.1 a step.1 step.0 step.2 step.3.2 in
      absurd (none w.0 w.1 (w.2, subst (λ x. Walk s x b n) (sym w.4) step.4)))
      (first_of_list (λ (w : Step). (w.near ≡ a) × Walk s w.far b n)
      (λ w. known_both (known_same w.near a) (known_walk s n w.far b))
      (λ (x y : Step). ChosenBefore s x.far x.port y.far y.port)
      (λ x y p q. before_total x.far y.far x.port y.port (walk_start s is n x.far b p.1) (walk_start s is n y.far b q.1))
      (λ x y z. before_trans x.far y.far z.far x.port y.port z.port)
      (steps s.links)) where
        near_of : (w : Step) → Contains (steps s.links) w → (w.near ≡ a) × Walk s w.far b n → LeadsNearer s a b w.port w.far w.far_port
        near_of w c p =
            let l = steps_sound s.links w c in
            let link : HasLink s a w.port w.far w.far_port = subst (λ x. HasLink s x w.port w.far w.far_port) p.0 (l.0, l.1, l.2) in
            record {
              rest = n;
              link = link;
              from_here = far;
              from_there = record { walk = p.1; least = λ m v. let least = far.least (suc m) (w.far, w.port, w.far_port, link, v) in omega (arith, least) };
            }

  -- the root has no uplink
  pub root_no_uplink : (d r : DpId) (p : ℕ) (e : DpId) (q : ℕ) → IsRoot s d r → IsUplink s r p e q → ⊥
  root_no_uplink d r p e q root up =
      let shared = root_shared d r r (joined_back r d root.joined) root in
      let same : up.root ≡ r = root_same s is r up.root r up.is_root shared in
      let least = up.hop.nearer.from_here.least 0 ((link_ends s is r p e q up.hop.nearer.link).0, sym same) in
      omega (arith, least)

  -- each other datapath has one
  pub uplink_exists : (d r : DpId) → IsRoot s d r → (d ≡ r → ⊥) → (p : ℕ) × (e : DpId) × (q : ℕ) × IsUplink s d p e q
  uplink_exists d r root apart =
      let far = distance_exists s d r (joined_back r d root.joined) in
      go far.0 far.1 where
        go : (n : ℕ) → IsDistance s d r n → (p : ℕ) × (e : DpId) × (q : ℕ) × IsUplink s d p e q
        go zero far = absurd (apart far.walk.1)
        go (suc n) far = let hop = hop_exists d r n far in (hop.0, hop.1, hop.2, record { root = r; is_root = root; hop = hop.3 })

  pub uplink_same : (d : DpId) (p p' : ℕ) (e e' : DpId) (q q' : ℕ) → IsUplink s d p e q → IsUplink s d p' e' q' → (p ≡ p') × (e ≡ e') × (q ≡ q')
  uplink_same d p p' e e' q q' x y =
      let same : y.root ≡ x.root = root_same s is d y.root x.root y.is_root x.is_root in
      hop_same s is d x.root p p' e e' q q' x.hop (subst (λ r. IsHop s d r p' e' q') same y.hop)

  -- following the uplinks leads to the root
  pub uplinks_lead : (n : ℕ) (d r : DpId) → IsRoot s d r → IsDistance s d r n → Follows s d r n
  uplinks_lead zero d r root far = far.walk.1
  uplinks_lead (suc n) d r root far =
      let hop = hop_exists d r n far in
      let near = hop.3.nearer in
      let rest_is : suc near.rest ≡ suc n = distance_same s d r (suc near.rest) (suc n) near.from_here far in
      let rest_is' : near.rest ≡ n = omega (arith, rest_is) in
      let node = (link_ends s is d hop.0 hop.1 hop.2 near.link).1 in
      let joined : IsJoined s d hop.1 = (suc zero, (hop.1, hop.0, hop.2, near.link, (node, refl))) in
      (hop.1, hop.0, hop.2, record { root = r; is_root = root; hop = hop.3 }, uplinks_lead n hop.1 r (root_shared d hop.1 r joined root) (subst (λ k. IsDistance s hop.1 r k) rest_is' near.from_there))

  pub all_lead : (d r : DpId) → IsRoot s d r → (n : ℕ) × IsDistance s d r n × Follows s d r n
  all_lead d r root =
      let far = distance_exists s d r (joined_back r d root.joined) in
      (far.0, far.1, uplinks_lead far.0 d r root far.1)

-- the port at the other end of a tree port's link is a tree port
pub tree_port_pair : (s : Stack) (d : DpId) (p : ℕ) → IsTreePort s d p → (e : DpId) × (q : ℕ) × HasLink s d p e q × IsTreePort s e q
tree_port_pair s d p (e, q, up) = (
  e,
  q,
  ⊎_elim
      (λ (x : IsUplink s d p e q). x.hop.nearer.link)
      (λ (x : IsUplink s e q d p). link_back s e q d p x.hop.nearer.link) up,
  (d, p, ⊎_elim (λ (x : IsUplink s d p e q). inr x) (λ (x : IsUplink s e q d p). inl x) up),
)
