use Rattle.std.proofs.Common.{◌≡◌, ℕ, zero, suc, ◌<◌, ◌≤◌, ◌↔◌, List, [], ◌∷◌, length, Some, None, Option, Vec, Global, slice_get, sym, refl, ◌∙◌, subst, inl, inr, ⊎_elim, arith}
use Rattle.std.specs.Prelude.{◌⊎◌, Contains, MatchOption, IfSome, IfNone, slice_index_or}
use Rattle.std.proofs.lemmas.Option.{same_Some, none-some, slice_get_within, slice_get-get_or, get_or_from_slice_get}
use Rattle.net_base.specs.declared.numbers.DpId.{DpId}
use Rattle.stack_paths.specs.declared.hops.Hop.{Hop}
use Rattle.stack_paths.specs.declared.ways.Ways.{Ways}
use Rattle.stack_paths.specs.Stack.{Stack, ids, IsAt, Walk, IsDistance, LeadsNearer, ChosenBefore, IsHop, IsNextHop, IsRoot, IsUplink, IsTreePort}
use Rattle.stack_paths.specs.Hops.{answer_at, AreWays, LeadsDown, ComesBefore}
use Rattle.stack_paths.specs.Trees.{IsRootOf, UplinkAt, IsEndOfSome, IsTreeOf}
use Rattle.stack_paths.specs.Tables.{AreTables}
use Rattle.stack_paths.proofs.Places.{ids-within, ids-node, id_there, at_same, place_same}
use Rattle.stack_paths.proofs.Firsts.{root_same, hop_same}
use Rattle.stack_paths.proofs.Walks.{link_ends, walk_start, walk_end, walk_by_places, distance_found, distance_is_found, no_walk}

-- some item of a list that has one
pub some_item : {X : Type 0} (xs : List X) (i : ℕ) → i < length xs → X
some_item [] i within = absurd (omega (arith, within))
some_item (x ∷ xs) i within = x

module _ (s : Stack) (ways : List Ways) (roots : List ℕ) (trees : List (Vec ℕ Global)) (tables : AreTables s ways roots trees) where
  -- the ways to a datapath
  pub ways_to : (t : ℕ) (b : DpId) → IsAt s t b → (d : Ways) → AreWays tables.hops (length s.nodes) t (slice_index_or ways t d)
  ways_to t b at_b d = tables.are_ways t d (omega (arith, tables.ways_len, ids-within s.nodes t b at_b))

  pub a_way : (t : ℕ) (b : DpId) → IsAt s t b → Ways
  a_way t b at_b = some_item ways t (omega (arith, tables.ways_len, ids-within s.nodes t b at_b))

  -- a walk is between two datapaths of the stack
  pub no_walk_from : (a b : DpId) → ((i : ℕ) → IsAt s i a → ⊥) → (m : ℕ) → Walk s a b m → ⊥
  no_walk_from a b nowhere m w = let start = walk_start s tables.stack m a b w in nowhere start.0 start.1

  pub no_walk_to : (a b : DpId) → ((i : ℕ) → IsAt s i b → ⊥) → (m : ℕ) → Walk s a b m → ⊥
  no_walk_to a b nowhere m w = let end = walk_end s tables.stack m a b w in nowhere end.0 end.1

  -- what the table of distances has at two places
  pub distance_answer : (i t : ℕ) (a b : DpId) → IsAt s i a → IsAt s t b → (o : Option ℕ) → ((d : Ways) → o ≡ answer_at (slice_index_or ways t d).distances.items i) → MatchOption o ((m : ℕ) → Walk s a b m → ⊥) (λ n. IsDistance s a b n)
  distance_answer i t a b at_a at_b (Some n) e =
      let d = a_way t b at_b in
      distance_found s tables.stack tables.hops tables.are_hops t b at_b _ (ways_to t b at_b d).distances i n a at_a (sym (e d))
  distance_answer i t a b at_a at_b None e =
      let d = a_way t b at_b in
      λ m w. no_walk s tables.stack tables.hops tables.are_hops t b at_b _ (ways_to t b at_b d).distances i m a at_a (sym (e d)) w

  pub distance_walk : (i t : ℕ) (a b : DpId) → IsAt s i a → IsAt s t b → (o : Option ℕ) → ((d : Ways) → o ≡ answer_at (slice_index_or ways t d).distances.items i) → IfSome o (λ n. Walk s a b n)
  distance_walk i t a b at_a at_b (Some n) e = (distance_answer i t a b at_a at_b (Some n) e).walk
  distance_walk i t a b at_a at_b None e = tt

  pub distance_least : (i t : ℕ) (a b : DpId) → IsAt s i a → IsAt s t b → (o : Option ℕ) → ((d : Ways) → o ≡ answer_at (slice_index_or ways t d).distances.items i) → IfSome o (λ n. (m : ℕ) → Walk s a b m → n ≤ m)
  distance_least i t a b at_a at_b (Some n) e = (distance_answer i t a b at_a at_b (Some n) e).least
  distance_least i t a b at_a at_b None e = tt

  pub distance_none : (i t : ℕ) (a b : DpId) → IsAt s i a → IsAt s t b → (o : Option ℕ) → ((d : Ways) → o ≡ answer_at (slice_index_or ways t d).distances.items i) → IfNone o ((m : ℕ) → Walk s a b m → ⊥)
  distance_none i t a b at_a at_b (Some n) e = tt
  distance_none i t a b at_a at_b None e = distance_answer i t a b at_a at_b None e

  module _ (t : ℕ) (b : DpId) (at_b : IsAt s t b) (w : Ways) (are : AreWays tables.hops (length s.nodes) t w) where
    -- a hop that leads down leads nearer
    pub nearer_of : (h : Hop) → Contains tables.hops h → LeadsDown w.distances.items h → (a : DpId) × (e : DpId) × IsAt s h.from a × IsAt s h.to e × LeadsNearer s a b h.port e h.far_port
    nearer_of h c (n, here, there) =
        let x = tables.are_hops.sound h c in (
          x.0,
          x.1,
          x.2,
          x.3,
          record {
            rest = n;
            link = x.4;
            from_here = distance_found s tables.stack tables.hops tables.are_hops t b at_b w.distances.items are.distances h.from (suc n) x.0 x.2 here;
            from_there = distance_found s tables.stack tables.hops tables.are_hops t b at_b w.distances.items are.distances h.to n x.1 x.3 there;
          },
        )

    -- and what leads nearer is a hop that leads down
    pub hop_of_nearer : (a : DpId) (p : ℕ) (e : DpId) (q : ℕ) → LeadsNearer s a b p e q → (h : Hop) × Contains tables.hops h × IsAt s h.from a × IsAt s h.to e × (h.port ≡ p) × (h.far_port ≡ q) × LeadsDown w.distances.items h
    hop_of_nearer a p e q near =
        let h = tables.are_hops.complete a p e q near.link in (
          h.0,
          h.1,
          h.2,
          h.3,
          h.4,
          h.5,
          (
            near.rest,
            distance_is_found s tables.stack tables.hops tables.are_hops t b at_b w.distances.items are.distances h.0.from (suc near.rest) a h.2 near.from_here,
            distance_is_found s tables.stack tables.hops tables.are_hops t b at_b w.distances.items are.distances h.0.to near.rest e h.3 near.from_there,
          ),
        )

    -- the chosen hop is the next hop
    pub hop_found : (i : ℕ) (a : DpId) → IsAt s i a → (g : Hop) → answer_at w.hops.items i ≡ Some g → (e : DpId) × IsAt s g.from a × IsAt s g.to e × IsHop s a b g.port e g.far_port
    hop_found i a at_a g is_g =
        let f = are.first.sound i g is_g in
        let x = nearer_of g f.0 f.2 in
        let same : x.0 ≡ a = at_same s i x.0 a (subst (λ k. IsAt s k x.0) f.1 x.2) at_a in (
          x.1,
          subst (λ y. IsAt s g.from y) same x.2,
          x.3,
          record {
            nearer = subst (λ y. LeadsNearer s y b g.port x.1 g.far_port) same x.4;
            first = λ p e q near.
                let h = hop_of_nearer a p e q near in
                let g' = are.first.first h.0 h.1 h.6 in
                let from : h.0.from ≡ i = place_same s tables.stack h.0.from i a h.2 at_a in
                let it : g'.0 ≡ g = same_Some g'.0 g (sym (subst (λ k. answer_at w.hops.items k ≡ Some g'.0) from g'.1) ∙ is_g) in
                let before : ComesBefore g h.0 = subst (λ y. ComesBefore y h.0) it g'.2 in
                subst (λ k. ChosenBefore s x.1 g.port e k) h.4 (g.to, h.0.to, x.3, h.3, before);
          },
        )

    -- where none is chosen, the place is the target or no walk leads to it
    pub hop_none : (i : ℕ) (a : DpId) → IsAt s i a → answer_at w.hops.items i ≡ None → (a ≡ b) ⊎ ((m : ℕ) → Walk s a b m → ⊥)
    hop_none i a at_a none = go (answer_at w.distances.items i) refl where
      go : (o : Option ℕ) → answer_at w.distances.items i ≡ o → (a ≡ b) ⊎ ((m : ℕ) → Walk s a b m → ⊥)
      go None e = inr (λ m. no_walk s tables.stack tables.hops tables.are_hops t b at_b w.distances.items are.distances i m a at_a e)
      go (Some zero) e = inl (at_same s t a b (subst (λ k. IsAt s k a) (are.distances.walk i zero e) at_a) at_b)
      go (Some (suc n)) e =
          let step = are.distances.walk i (suc n) e in
          let h = step.0 in
          let k = are.distances.least h.to n step.3 in
          let l = are.distances.least i (suc k.0) (h, step.1, step.2, are.distances.walk h.to k.0 k.2) in
          let l_is : l.0 ≡ suc n = same_Some l.0 (suc n) (sym l.2 ∙ e) in
          let k_is : k.0 ≡ n = omega (arith, k.1, l.1, l_is) in
          let down : LeadsDown w.distances.items h = (n, subst (λ j. answer_at w.distances.items j ≡ Some (suc n)) (sym step.2) e, subst (λ j. answer_at w.distances.items h.to ≡ Some j) k_is k.2) in
          let g = are.first.first h step.1 down in
          let chosen : answer_at w.hops.items i ≡ Some g.0 = subst (λ j. answer_at w.hops.items j ≡ Some g.0) step.2 g.1 in
          absurd (none-some g.0 (sym none ∙ chosen))

  -- what the table of first hops has at two places
  pub hop_answer : (i t : ℕ) (a b : DpId) → IsAt s i a → IsAt s t b → (o : Option ℕ) → ((d : Ways) → MatchOption o (answer_at (slice_index_or ways t d).hops.items i ≡ None) (λ port. (h : Hop) × (answer_at (slice_index_or ways t d).hops.items i ≡ Some h) × (h.port ≡ port))) → IfSome o (λ port. IsNextHop s a b port)
  hop_answer i t a b at_a at_b (Some port) e =
      let d = a_way t b at_b in
      let h = e d in
      let f = hop_found t b at_b (slice_index_or ways t d) (ways_to t b at_b d) i a at_a h.0 h.1 in
      subst (λ p. IsNextHop s a b p) h.2 (f.0, h.0.far_port, f.3)
  hop_answer i t a b at_a at_b None e = tt

  pub hop_answer_none : (i t : ℕ) (a b : DpId) → IsAt s i a → IsAt s t b → (o : Option ℕ) → ((d : Ways) → MatchOption o (answer_at (slice_index_or ways t d).hops.items i ≡ None) (λ port. (h : Hop) × (answer_at (slice_index_or ways t d).hops.items i ≡ Some h) × (h.port ≡ port))) → IfNone o ((a ≡ b) ⊎ ((m : ℕ) → Walk s a b m → ⊥))
  hop_answer_none i t a b at_a at_b (Some port) e = tt
  hop_answer_none i t a b at_a at_b None e =
      let d = a_way t b at_b in
      hop_none t b at_b (slice_index_or ways t d) (ways_to t b at_b d) i a at_a (e d)

  -- the root that the table has
  pub root_found : (i r : ℕ) (d x : DpId) → IsAt s i d → IsAt s r x → IsRootOf s.nodes ways i r → IsRoot s d x
  root_found i r d x at_d at_x (within, of_ways) =
      let default = a_way i d at_d in
      let w = slice_index_or ways i default in
      let are = ways_to i d at_d default in
      let root = of_ways default in
      record {
        joined = (root.joined.0, (distance_found s tables.stack tables.hops tables.are_hops i d at_d w.distances.items are.distances r root.joined.0 x at_x root.joined.1).walk);
        first = λ e walk.
            let j = walk_start s tables.stack walk.0 e d walk.1 in
            let found = are.distances.least j.0 walk.0 (walk_by_places s tables.stack tables.hops tables.are_hops walk.0 j.0 i e d j.1 at_d walk.1) in
            let first = root.first j.0 found.0 found.2 in
            record {
              i = r;
              j = j.0;
              m = first.m;
              n = first.n;
              at_i = first.at_i;
              at_j = first.at_j;
              is_d = same_Some first.m.id x (sym (ids-node s.nodes r first.m first.at_i) ∙ at_x);
              is_e = same_Some first.n.id e (sym (ids-node s.nodes j.0 first.n first.at_j) ∙ j.1);
              ranks = first.ranks;
            };
      }

  -- what the table of roots has at a place
  root_at : (i : ℕ) (d : DpId) → IsAt s i d → (x : ℕ) → IsRootOf s.nodes ways i (slice_index_or roots i x)
  root_at i d at_d x = tables.are_roots i x (omega (arith, tables.roots_len, ids-within s.nodes i d at_d))

  pub root_answer : (i : ℕ) (d r : DpId) → IsAt s i d → ((x : ℕ) → slice_get (ids s.nodes) (slice_index_or roots i x) ≡ Some r) → IsRoot s d r
  root_answer i d r at_d at_r = root_found i (slice_index_or roots i 0) d r at_d (at_r 0) (root_at i d at_d 0)

  -- an uplink of the table is one
  pub uplink_found : (j : ℕ) (h : Hop) → UplinkAt ways roots j h → (d : DpId) × (e : DpId) × IsAt s h.from d × IsAt s h.to e × IsUplink s d h.port e h.far_port
  uplink_found j h up =
      let j_within : j < length roots = slice_get_within roots j up.root up.is_root in
      let d = id_there s.nodes j (omega (arith, j_within, tables.roots_len)) in
      let root_is : slice_index_or roots j 0 ≡ up.root = get_or_from_slice_get roots j up.root 0 up.is_root in
      let of : IsRootOf s.nodes ways j up.root = subst (λ k. IsRootOf s.nodes ways j k) root_is (root_at j d.0 d.1 0) in
      let r = id_there s.nodes up.root of.0 in
      let way_is : slice_index_or ways up.root up.to_root ≡ up.to_root = get_or_from_slice_get ways up.root up.to_root up.to_root up.is_to_root in
      let are : AreWays tables.hops (length s.nodes) up.root up.to_root = subst (λ w. AreWays tables.hops (length s.nodes) up.root w) way_is (ways_to up.root r.0 r.1 up.to_root) in
      let f = hop_found up.root r.0 r.1 up.to_root are j d.0 d.1 h up.first in
      (d.0, f.0, f.1, f.2, record { root = r.0; is_root = root_found j up.root d.0 r.0 d.1 r.1 of; hop = f.3 })

  -- and each uplink is in the table
  pub uplink_is_found : (d : DpId) (p : ℕ) (e : DpId) (q : ℕ) → IsUplink s d p e q → (h : Hop) × Contains tables.uplinks h × IsAt s h.from d × IsAt s h.to e × (h.port ≡ p) × (h.far_port ≡ q)
  uplink_is_found d p e q up =
      let i = (link_ends s tables.stack d p e q up.hop.nearer.link).0 in
      let r = slice_index_or roots i.0 0 in
      let of = root_at i.0 d i.1 0 in
      let x = id_there s.nodes r of.0 in
      let root_is : up.root ≡ x.0 = root_same s tables.stack d up.root x.0 up.is_root (root_found i.0 r d x.0 i.1 x.1 of) in
      let hop : IsHop s d x.0 p e q = subst (λ y. IsHop s d y p e q) root_is up.hop in
      let default = a_way r x.0 x.1 in
      let w = slice_index_or ways r default in
      let are = ways_to r x.0 x.1 default in
      let h = hop_of_nearer r x.0 x.1 w are d p e q hop.nearer in
      let g = are.first.first h.0 h.1 h.6 in
      let from : h.0.from ≡ i.0 = place_same s tables.stack h.0.from i.0 d h.2 i.1 in
      let is_g : answer_at w.hops.items i.0 ≡ Some g.0 = subst (λ k. answer_at w.hops.items k ≡ Some g.0) from g.1 in
      let f = hop_found r x.0 x.1 w are i.0 d i.1 g.0 is_g in
      let same = hop_same s tables.stack d x.0 g.0.port p f.0 e g.0.far_port q f.3 hop in
      let i_within : i.0 < length roots = omega (arith, tables.roots_len, ids-within s.nodes i.0 d i.1) in
      let r_within : r < length ways = omega (arith, tables.ways_len, of.0) in (
        g.0,
        tables.are_uplinks.complete i.0 g.0 (record {
          root = r;
          to_root = w;
          is_root = slice_get-get_or roots i.0 0 i_within;
          is_to_root = slice_get-get_or ways r default r_within;
          first = is_g;
        }),
        f.1,
        subst (λ y. IsAt s g.0.to y) same.1 f.2,
        same.0,
        same.2,
      )

  -- the ends of the table's uplinks are the tree ports
  pub tree_ports_found : (i : ℕ) (d : DpId) → IsAt s i d → (p : ℕ) → IsEndOfSome tables.uplinks i p ↔ IsTreePort s d p
  tree_ports_found i d at_d p = (
    λ (h, c, ends).
        let up = tables.are_uplinks.sound h c in
        let x = uplink_found up.0 h up.1 in
        ⊎_elim
        (λ (y : (h.from ≡ i) × (h.port ≡ p)).
        let same : x.0 ≡ d = at_same s i x.0 d (subst (λ k. IsAt s k x.0) y.0 x.2) at_d in
        (x.1, h.far_port, inl (subst (λ k. IsUplink s d k x.1 h.far_port) y.1 (subst (λ z. IsUplink s z h.port x.1 h.far_port) same x.4))))
        (λ (y : (h.to ≡ i) × (h.far_port ≡ p)).
        let same : x.1 ≡ d = at_same s i x.1 d (subst (λ k. IsAt s k x.1) y.0 x.3) at_d in
        (x.0, h.port, inr (subst (λ k. IsUplink s x.0 h.port d k) y.1 (subst (λ z. IsUplink s x.0 h.port z h.far_port) same x.4))))
        ends,
    λ (e, q, up). ⊎_elim
        (λ (y : IsUplink s d p e q).
        let h = uplink_is_found d p e q y in
        (h.0, h.1, inl (place_same s tables.stack h.0.from i d h.2 at_d, h.4)))
        (λ (y : IsUplink s e q d p).
        let h = uplink_is_found e q d p y in
        (h.0, h.1, inr (place_same s tables.stack h.0.to i d h.3 at_d, h.5)))
        up,
  )

  pub tree_answer : (i : ℕ) (d : DpId) → IsAt s i d → (ports : List ℕ) → IsTreeOf tables.uplinks i ports → (p : ℕ) → Contains ports p ↔ IsTreePort s d p
  tree_answer i d at_d ports tree p =
      let ends = tree.ends p in
      let found = tree_ports_found i d at_d p in
      (λ c. found.0 (ends.0 c), λ t. ends.1 (found.1 t))

  -- what is no datapath has no tree port
  pub no_tree_port : (d : DpId) → ((i : ℕ) → IsAt s i d → ⊥) → (p : ℕ) → IsTreePort s d p → ⊥
  no_tree_port d nowhere p (e, q, up) = ⊎_elim
      (λ (y : IsUplink s d p e q). let at = (link_ends s tables.stack d p e q y.hop.nearer.link).0 in nowhere at.0 at.1)
      (λ (y : IsUplink s e q d p). let at = (link_ends s tables.stack e q d p y.hop.nearer.link).1 in nowhere at.0 at.1)
      up
