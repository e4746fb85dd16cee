-- Floods along the branches of the tree of one part: what they bring to a datapath t.
use Rattle.std.proofs.Common.{◌≡◌, ℕ, zero, suc, ◌+◌, ◌≤◌, ◌==◌, ◌&&◌, Bool, true, false, not, cond, Option, Some, None, List, [], ◌∷◌, filter, length, is_some, get_or, refl, inl, inr, sym, ap, ◌∙◌, subst, arith}
use Rattle.std.specs.Prelude.{◌⊎◌, Contains}
use Rattle.std.specs.Option.{option_map_or}
use Rattle.std.proofs.lemmas.Bool.{cases_Bool, and_parts, and_from, and_right, both_ways, eqb-true, eq-eqb, not_from_true, not_from_false, false_from_ne_true}
use Rattle.std.proofs.lemmas.Option.{same_Some, slice_get-get_or}
use Rattle.net_base.specs.declared.numbers.DpId.{DpId}
use Rattle.net_base.specs.declared.stack.Node.{Node}
use Rattle.stack_paths.specs.Chosen.{Step, is_same_dp, distance_of, is_tree_port}
use Rattle.stack_paths.specs.Stack.{Stack, IsNode, HasLink, IsStack, IsJoined, IsDistance, IsHop, IsRoot, IsTreePort}
use Rattle.stack_paths.proofs.ChosenHops.{tree_port_found, tree_port_here}
use Rattle.stack_paths.proofs.ChosenWalks.{same_dp, distance_found, distance_here}
use Rattle.stack_paths.proofs.Finite.{contains_cons}
use Rattle.stack_paths.proofs.Firsts.{root_same}
use Rattle.stack_paths.proofs.LawLemmas.{distance_exists, joined_back, root_shared}
use Rattle.stack_paths.proofs.Places.{ids-at, ids-within}
use Rattle.stack_paths.proofs.Walks.{link_ends, walk_start}
use Rattle.law_trees.specs.Ways.{IsNoEnd, HaveTreePorts, step_at}
use Rattle.law_trees.proofs.Sides.{step_of, IsBranch, branch_link, branch_back, toward, toward_itself, toward_back, some_toward, one_toward, free_toward}
use Rattle.law_trees.proofs.Totals.{total, total_none, total_same, total_filtered, total_once, count_is, one_more}

pub filtered : {X : Type 0} (t : X → Bool) (xs : List X) (x : X) → Contains (filter t xs) x → t x ≡ true
filtered t [] x c = absurd (omega (arith, c.1))
filtered {X = X} t (y ∷ ys) x c = by (t y) refl (filtered t ys x) c
  where
    by : (b : Bool) → t y ≡ b → (Contains (filter t ys) x → t x ≡ true) → Contains (cond b (y ∷ filter t ys) (filter t ys)) x → t x ≡ true
    by true passes more c = elim (contains_cons y x (filter t ys) c) [ inl first ↦ subst (λ z. t z ≡ true) first passes | inr later ↦ more later ]
    by false fails more c = more c

either_none : (b : Bool) → ◌≡◌ {A = ℕ} (cond b 0 0) 0
either_none true = refl
either_none false = refl

most : {X : Type 0} (t : X → Bool) (xs : List X) → total (λ x. cond (t x) 1 0) xs ≤ length xs
most t [] = omega arith
most {X = X} t (x ∷ xs) = by (t x) (most t xs)
  where
    by : (b : Bool) → total (λ y. cond (t y) 1 0) xs ≤ length xs → cond b 1 0 + total (λ y. cond (t y) 1 0) xs ≤ length (x ∷ xs)
    by true more = omega (arith, more)
    by false more = omega (arith, more)

module _ (s : Stack) (is : IsStack s) where
  -- a datapath of the stack is one of its nodes
  pub node_in : (d : DpId) → IsNode s d → (m : Node) × Contains s.nodes m × (m.id ≡ d)
  node_in d node =
      let x : Node = record { id = d; priority = None } in
      let within = ids-within s.nodes node.0 d node.1 in
      let m = get_or s.nodes node.0 x in
      (m, (node.0, within, same_Some (get_or s.nodes node.0 m) m (sym (slice_get-get_or s.nodes node.0 m within) ∙ slice_get-get_or s.nodes node.0 x within)), ids-at s.nodes node.0 d node.1 x)

  pub linked : (d : DpId) (x : ℕ) (e : DpId) (q : ℕ) → HasLink s d x e q → IsJoined s d e
  linked d x e q link = (suc zero, (e, x, q, link, ((link_ends s is d x e q link).1, refl)))

  module _ (r : DpId) where
    -- ---- tree ports are branches

    pub branch_of : (d : DpId) (x : ℕ) → IsRoot s d r → is_tree_port s d x ≡ true → (e : DpId) × (q : ℕ) × IsBranch s is r d x e q
    branch_of d x root tree = by (tree_port_found s is d x tree)
      where
        by : IsTreePort s d x → (e : DpId) × (q : ℕ) × IsBranch s is r d x e q
        by (e, q, inl up) = (e, q, inl (subst (λ y. IsHop s d y x e q) (root_same s is d up.root r up.is_root root) up.hop))
        by (e, q, inr down) =
            let joined = linked e q d x down.hop.nearer.link in
            (e, q, inr (subst (λ y. IsHop s e y q d x) (root_same s is d down.root r (root_shared s is e d down.root joined down.is_root) root) down.hop))

    branch_root : (d : DpId) (x : ℕ) (e : DpId) (q : ℕ) → IsRoot s d r → IsBranch s is r d x e q → IsRoot s e r
    branch_root d x e q root b = root_shared s is d e r (linked d x e q (branch_link s is r d x e q b)) root

    branch_tree : (d : DpId) (x : ℕ) (e : DpId) (q : ℕ) → IsRoot s d r → IsBranch s is r d x e q → is_tree_port s d x ≡ true
    branch_tree d x e q root (inl up) = tree_port_here s is d x (e, q, inl (record { root = r; is_root = root; hop = up }))
    branch_tree d x e q root (inr down) = tree_port_here s is d x (e, q, inr (record { root = r; is_root = branch_root d x e q root (inr down); hop = down }))

    -- ---- where a flood comes to

    -- a port of a datapath of the part, at which a branch begins, or no link
    pub record Place (d : DpId) (port : ℕ) : Type 0 where
      pub root : IsRoot s d r
      pub entry : ((e : DpId) × (q : ℕ) × IsBranch s is r d port e q) ⊎ IsNoEnd s d port

    pub far_from_root : (d : DpId) → IsRoot s d r → (n : ℕ) × IsDistance s d r n
    far_from_root d root = distance_exists s d r (joined_back s is r d root.joined)

    pub beyond : (d : DpId) (x : ℕ) (e : DpId) (q : ℕ) → IsRoot s d r → IsBranch s is r d x e q → Place e q
    beyond d x e q root b = record { root = branch_root d x e q root b; entry = inl (d, x, branch_back s is r d x e q b) }

    entry_itself : (d : DpId) (port : ℕ) → Place d port → toward s is r d port d ≡ false
    entry_itself d port place = elim place.entry [
      | inl b ↦ toward_itself s is r d port b.0 b.1 b.2
      | inr free ↦ free_toward s is r d port d free
    ]

    -- what lies beyond another branch doesn't lie where the flood came from
    entry_other : (d : DpId) (port : ℕ) (t : DpId) (n x : ℕ) (e : DpId) (q : ℕ) → Place d port → IsDistance s t r n → IsBranch s is r d x e q → toward s is r d x t ≡ true → (x ≡ port → ⊥) → toward s is r d port t ≡ false
    entry_other d port t n x e q place far b leads other = elim place.entry [
      | inl a ↦ false_from_ne_true (toward s is r d port t) (λ too. other (one_toward s is r n d t x e q port a.0 a.1 far b a.2 leads too))
      | inr free ↦ free_toward s is r d port t free
    ]

    -- ---- how many datapaths lie ahead

    is_ahead : DpId → ℕ → DpId → Bool
    is_ahead d port t = is_some (distance_of s t r) && not (toward s is r d port t)

    pub size : DpId → ℕ → ℕ
    size d port = total (λ (m : Node). cond (is_ahead d port m.id) 1 0) s.nodes

    pub size_most : (d : DpId) (port : ℕ) → size d port ≤ length s.nodes
    unfolding size
    size_most d port = most (λ (m : Node). is_ahead d port m.id) s.nodes

    some_distance : (t : DpId) → is_some (distance_of s t r) ≡ true → (n : ℕ) × IsDistance s t r n
    some_distance t e = by (distance_of s t r) refl e
      where
        by : (o : Option ℕ) → distance_of s t r ≡ o → is_some o ≡ true → (n : ℕ) × IsDistance s t r n
        by None none e = absurd (both_ways false refl e)
        by (Some n) some e = (n, distance_found s t r n some)

    ahead_itself : (d : DpId) (port : ℕ) → Place d port → is_ahead d port d ≡ true
    unfolding is_ahead
    ahead_itself d port place =
        let far = far_from_root d place.root in
        and_from (is_some (distance_of s d r)) (not (toward s is r d port d)) (ap is_some (distance_here s is d r far.0 far.1)) (not_from_false (toward s is r d port d) (entry_itself d port place))

    pub size_less : (d : DpId) (port x : ℕ) (e : DpId) (q : ℕ) → Place d port → IsBranch s is r d x e q → (x ≡ port → ⊥) → suc (size e q) ≤ size d port
    unfolding size is_ahead
    size_less d port x e q place b other =
        let far = far_from_root d place.root in
        let node = node_in d (walk_start s is far.0 d r far.1.walk) in
        let m : Node = node.0 in
        let behind : toward s is r e q d ≡ true = toward_back s is r d x e q d b ∙ not_from_false (toward s is r d x d) (toward_itself s is r d x e q b) in
        let out : is_ahead e q d ≡ false = and_right (is_some (distance_of s d r)) (not (toward s is r e q d)) (not_from_true (toward s is r e q d) behind) in
        one_more (λ (m : Node). is_ahead e q m.id) (λ (m : Node). is_ahead d port m.id) s.nodes
        (λ m c passes.
        let both = and_parts (is_some (distance_of s m.id r)) (not (toward s is r e q m.id)) passes in
        let n = some_distance m.id both.0 in
        let leads : toward s is r d x m.id ≡ true = turned (toward s is r d x m.id) (ap (λ b. not b) (sym (toward_back s is r d x e q m.id b)) ∙ both.1) in
        and_from (is_some (distance_of s m.id r)) (not (toward s is r d port m.id)) both.0 (not_from_false (toward s is r d port m.id) (entry_other d port m.id n.0 x e q place n.1 b leads other)))
        m node.1 (subst (λ y. is_ahead e q y ≡ false) (sym node.2) out) (subst (λ y. is_ahead d port y ≡ true) (sym node.2) (ahead_itself d port place))
      where
        turned : (b : Bool) → not (not b) ≡ true → b ≡ true
        turned true e = refl
        turned false e = absurd (both_ways false refl e)

    pub size_some : (d : DpId) (port : ℕ) → Place d port → suc 0 ≤ size d port
    unfolding size
    size_some d port place =
        let far = far_from_root d place.root in
        let node = node_in d (walk_start s is far.0 d r far.1.walk) in
        let more = one_more (λ (m : Node). false) (λ (m : Node). is_ahead d port m.id) s.nodes (λ m c passes. absurd (both_ways false refl passes)) node.0 node.1 refl (subst (λ y. is_ahead d port y ≡ true) (sym node.2) (ahead_itself d port place)) in
        omega (arith, more)

    -- ---- what a flood brings

    module _ (ports : DpId → List ℕ) where
      tree_ports : DpId → List ℕ
      tree_ports d = filter (is_tree_port s d) (ports d)

      -- what the rest of the flood brings behind the links by which it leaves
      pub along : (DpId → ℕ → ℕ) → DpId → ℕ → ℕ
      along rest d port = total (λ x. cond (x == port) 0 (option_map_or (λ (w : Step). rest w.far w.far_port) (step_at s d x) 0)) (tree_ports d)

      -- the same over all ports
      pub along_is : (rest : DpId → ℕ → ℕ) (d : DpId) (port : ℕ) → along rest d port ≡ total (λ x. cond (is_tree_port s d x) (cond (x == port) 0 (option_map_or (λ (w : Step). rest w.far w.far_port) (step_at s d x) 0)) 0) (ports d)
      unfolding along tree_ports
      along_is rest d port = total_filtered (λ x. cond (x == port) 0 (option_map_or (λ (w : Step). rest w.far w.far_port) (step_at s d x) 0)) (is_tree_port s d) (ports d)

      -- of each branch what lies beyond it
      along_each : (rest : DpId → ℕ → ℕ) (d : DpId) (port : ℕ) (v : ℕ → ℕ) → IsRoot s d r
          → ((x : ℕ) (e : DpId) (q : ℕ) → IsBranch s is r d x e q → (x ≡ port → ⊥) → rest e q ≡ v x)
          → along rest d port ≡ total (λ x. cond (x == port) 0 (v x)) (tree_ports d)
      unfolding along tree_ports
      along_each rest d port v root each =
          total_same (λ x. cond (x == port) 0 (option_map_or (λ (w : Step). rest w.far w.far_port) (step_at s d x) 0)) (λ x. cond (x == port) 0 (v x)) (tree_ports d)
          (λ x c.
          let b = branch_of d x root (filtered (is_tree_port s d) (ports d) x c) in
          let w = step_of s is d x b.0 b.1 (branch_link s is r d x b.0 b.1 b.2) in
          elim (cases_Bool (x == port)) [
            | inl same ↦ rw same refl
            | inr other ↦ rw other (ap (λ o. option_map_or (λ (w : Step). rest w.far w.far_port) o 0) w.is ∙ ap (λ y. rest y w.step.far_port) w.far ∙ ap (rest b.0) w.far_port ∙ each x b.0 b.1 b.2 (λ e. both_ways (x == port) other (eq-eqb x port e)))
          ])

      pub along_none : (rest : DpId → ℕ → ℕ) (d : DpId) (port : ℕ) → IsRoot s d r → ((x : ℕ) (e : DpId) (q : ℕ) → IsBranch s is r d x e q → rest e q ≡ 0) → along rest d port ≡ 0
      along_none rest d port root none = along_each rest d port (λ x. 0) root (λ x e q b other. none x e q b) ∙ total_none (λ x. cond (x == port) 0 0) (tree_ports d) (λ x c. either_none (x == port))

      module _ (have : HaveTreePorts s ports) where
        branch_once : (d : DpId) (x : ℕ) (e : DpId) (q : ℕ) → IsRoot s d r → IsBranch s is r d x e q → total (λ y. cond (y == x) 1 0) (tree_ports d) ≡ 1
        unfolding tree_ports
        branch_once d x e q root b =
            let tree = branch_tree d x e q root b in
            total_filtered (λ y. cond (y == x) 1 0) (is_tree_port s d) (ports d)
            ∙ total_same (λ y. cond (is_tree_port s d y) (cond (y == x) 1 0) 0) (λ y. cond (y == x) 1 0) (ports d)
            (λ y c. elim (cases_Bool (y == x)) [
              | inl same ↦ rw (same, ap (is_tree_port s d) (eqb-true y x same) ∙ tree) refl
              | inr other ↦ rw other (either_none (is_tree_port s d y))
            ])
            ∙ sym (count_is (λ y. y == x) (ports d)) ∙ have d x tree

        -- t is one datapath of the part, which a flood brings `here` by its port, the same by each branch
        module _ (t : DpId) (t_root : IsRoot s t r) (here : ℕ → ℕ) (c : ℕ) (alike : (y : ℕ) (e : DpId) (q : ℕ) → IsBranch s is r t y e q → here y ≡ c) where
          -- what is brought from here on
          pub brings : DpId → ℕ → ℕ
          brings d port = cond (is_same_dp t d) (here port) (cond (toward s is r d port t) 0 c)

          pub brings_is : (d : DpId) (port : ℕ) → brings d port ≡ cond (is_same_dp t d) (here port) (cond (toward s is r d port t) 0 c)
          unfolding brings
          brings_is d port = refl

          -- behind a branch it is brought where t lies there
          brings_beyond : (d : DpId) (x : ℕ) (e : DpId) (q : ℕ) → IsBranch s is r d x e q → brings e q ≡ cond (toward s is r d x t) c 0
          unfolding brings
          brings_beyond d x e q b =
              by (is_same_dp t e) refl
              ∙ ap (λ b. cond b 0 c) (toward_back s is r d x e q t b)
              ∙ turned (toward s is r d x t)
            where
              turned : (b : Bool) → cond (not b) 0 c ≡ cond b c 0
              turned true = refl
              turned false = refl

              by : (b : Bool) → is_same_dp t e ≡ b → cond b (here q) (cond (toward s is r e q t) 0 c) ≡ cond (toward s is r e q t) 0 c
              by false other = refl
              by true is_t =
                  let same : t ≡ e = same_dp t e is_t in
                  let back = branch_back s is r d x e q b in
                  alike q d x (subst (λ y. IsBranch s is r y q d x) (sym same) back)
                  ∙ sym (ap (λ b. cond b 0 c) (subst (λ y. toward s is r e q y ≡ false) (sym same) (toward_itself s is r e q d x back)))

          -- the flood brings what it brings here and what the rest of it brings behind each branch
          pub brought : (rest : DpId → ℕ → ℕ) (k : ℕ) → ((e : DpId) (q : ℕ) (f : DpId) (u : ℕ) → IsBranch s is r e q f u → Place e q → size e q ≤ k → rest e q ≡ brings e q)
              → (d : DpId) (port : ℕ) → Place d port → size d port ≤ suc k → cond (is_same_dp t d) (here port) 0 + along rest d port ≡ brings d port
          unfolding brings along tree_ports
          brought rest k claim d port place small =
              let each : along rest d port ≡ total (λ x. cond (x == port) 0 (cond (toward s is r d x t) c 0)) (tree_ports d) =
              along_each rest d port (λ x. cond (toward s is r d x t) c 0) place.root (λ x e q b other.
              let less = size_less d port x e q place b other in
              claim e q d x (branch_back s is r d x e q b) (beyond d x e q place.root b) (omega (arith, less, small)) ∙ brings_beyond d x e q b) in
              elim (cases_Bool (is_same_dp t d)) [
                | inl is_t ↦
                    let none = total_none (λ x. cond (x == port) 0 (cond (toward s is r d x t) c 0)) (tree_ports d) (λ x in_ports. at_itself is_t x in_ports) in
                    let sum = each ∙ none in
                    rw is_t (omega (arith, sum))
                | inr other ↦ rw other (let sum = each ∙ elsewhere other in omega (arith, sum))
              ]
            where
              at_itself : is_same_dp t d ≡ true → (x : ℕ) → Contains (tree_ports d) x → cond (x == port) 0 (cond (toward s is r d x t) c 0) ≡ 0
              at_itself is_t x in_ports =
                  let b = branch_of d x place.root (filtered (is_tree_port s d) (ports d) x in_ports) in
                  rw (subst (λ y. toward s is r d x y ≡ false) (sym (same_dp t d is_t)) (toward_itself s is r d x b.0 b.1 b.2))
                  (either_none (x == port))

              elsewhere : is_same_dp t d ≡ false → total (λ x. cond (x == port) 0 (cond (toward s is r d x t) c 0)) (tree_ports d) ≡ cond (toward s is r d port t) 0 c
              elsewhere other =
                  let m = far_from_root d place.root in
                  let n = far_from_root t t_root in
                  let w = some_toward s is r m.0 n.0 d t m.1 n.1 other in
                  let y = w.port in
                  total_same (λ x. cond (x == port) 0 (cond (toward s is r d x t) c 0)) (λ x. cond (x == y) (cond (y == port) 0 c) 0) (tree_ports d)
                  (λ x in_ports. elim (cases_Bool (x == y)) [
                    | inl same ↦
                        let is_y : x ≡ y = eqb-true x y same in
                        rw (same, ap (λ z. toward s is r d z t) is_y ∙ w.leads, ap (λ z. z == port) is_y) refl
                    | inr differs ↦
                        let b = branch_of d x place.root (filtered (is_tree_port s d) (ports d) x in_ports) in
                        let none : toward s is r d x t ≡ false = false_from_ne_true (toward s is r d x t) (λ leads. both_ways (x == y) differs (eq-eqb x y (one_toward s is r n.0 d t x b.0 b.1 y w.far w.far_port n.1 b.2 w.branch leads w.leads))) in
                        rw (differs, none) (either_none (x == port))
                  ])
                  ∙ total_once (λ x. x == y) (cond (y == port) 0 c) (tree_ports d) (branch_once d y w.far w.far_port place.root w.branch)
                  ∙ elim (cases_Bool (y == port)) [
                    | inl same ↦ rw (same, ap (λ z. toward s is r d z t) (sym (eqb-true y port same)) ∙ w.leads) refl
                    | inr differs ↦ rw (differs, entry_other d port t n.0 y w.far w.far_port place n.1 w.branch w.leads (λ e. both_ways (y == port) differs (eq-eqb y port e))) refl
                  ]
