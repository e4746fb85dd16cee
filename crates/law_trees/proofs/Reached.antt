-- The datapaths that a flood comes to.
use Rattle.std.proofs.Common.{◌≡◌, ℕ, zero, suc, ◌+◌, ◌≤◌, ◌==◌, ◌&&◌, Bool, true, false, not, cond, Option, Some, None, List, [], ◌∷◌, ◌++◌, filter, length, count_by, refl, inr, sym, ap, ◌∙◌, subst, arith}
use Rattle.std.specs.Prelude.{Contains}
use Rattle.std.specs.List.{flat_map}
use Rattle.std.specs.Option.{option_map_or}
use Rattle.std.proofs.lemmas.Bool.{and_parts, eq-eqb, both_ways, not_from_true, false_from_ne_true}
use Rattle.net_base.specs.declared.numbers.DpId.{DpId}
use Rattle.stack_paths.specs.Chosen.{Step, is_same_dp, is_tree_port}
use Rattle.stack_paths.specs.Stack.{Stack, IsStack, IsNode, IsJoined, IsRoot}
use Rattle.stack_paths.proofs.ChosenWalks.{same_dp}
use Rattle.stack_paths.proofs.Finite.{contains_here, contains_there}
use Rattle.stack_paths.proofs.LawLemmas.{joined_trans, root_shared}
use Rattle.stack_paths.proofs.Walks.{walk_start}
use Rattle.law_trees.specs.Ways.{IsNoEnd, HaveTreePorts, step_at, is_onward, reached}
use Rattle.law_trees.proofs.Floods.{linked, branch_of, Place, beyond, size, size_most, size_less, size_some, along, along_is, brings, brings_is, brought}
use Rattle.law_trees.proofs.Roots.{root_exists}
use Rattle.law_trees.proofs.Sides.{branch_link, step_of, step_leads, free_toward}
use Rattle.law_trees.proofs.Totals.{total, total_flat, total_filtered, total_same, total_none, count_is}

-- lists that are made of equal ones are equal
flat_same : {X Y : Type 0} (f g : X → List Y) (t : X → Bool) (xs : List X) → ((x : X) → Contains xs x → t x ≡ true → f x ≡ g x) → flat_map f (filter t xs) ≡ flat_map g (filter t xs)
flat_same f g t [] same = refl
flat_same {Y = Y} f g t (x ∷ xs) same = by (t x) refl (flat_same f g t xs (λ y c. same y (contains_there x y xs c)))
  where
    by : (b : Bool) → t x ≡ b → flat_map f (filter t xs) ≡ flat_map g (filter t xs) → flat_map f (cond b (x ∷ filter t xs) (filter t xs)) ≡ flat_map g (cond b (x ∷ filter t xs) (filter t xs))
    by true passes more = ap (λ (l : List Y). l ++ flat_map f (filter t xs)) (same x (contains_here x xs) passes) ∙ ap (λ (l : List Y). g x ++ l) more
    by false fails more = more

module _ (s : Stack) (is : IsStack s) (ports : DpId → List ℕ) where
  module _ (t : DpId) where
    count : ℕ → DpId → ℕ → ℕ
    count k d port = count_by (is_same_dp t) (reached s ports k d port)

    -- where the flood goes on by a port
    through : ℕ → DpId → ℕ → ℕ → ℕ
    through k d port x = cond (is_tree_port s d x) (cond (x == port) 0 (option_map_or (λ (w : Step). count k w.far w.far_port) (step_at s d x) 0)) 0

    count_next : (k : ℕ) (d : DpId) (port : ℕ) → count (suc k) d port ≡ cond (is_same_dp t d) 1 0 + total (through k d port) (ports d)
    unfolding count through reached
    count_next k d port =
        let test = λ (x : DpId). cond (is_same_dp t x) 1 0 in
        let go = λ (x : ℕ). option_map_or (λ (w : Step). reached s ports k w.far w.far_port) (step_at s d x) [] in
        count_is (is_same_dp t) (reached s ports (suc k) d port)
        ∙ ap (λ (n : ℕ). cond (is_same_dp t d) 1 0 + n)
        (total_flat test go (filter (is_onward s d port) (ports d))
        ∙ total_filtered (λ x. total test (go x)) (is_onward s d port) (ports d)
        ∙ total_same (λ x. cond (is_onward s d port x) (total test (go x)) 0) (through k d port) (ports d) (λ x c. each x (is_tree_port s d x) (x == port) (step_at s d x)))
      where
        each : (x : ℕ) (a b : Bool) (o : Option Step) → cond (a && not b) (total (λ (x : DpId). cond (is_same_dp t x) 1 0) (option_map_or (λ (w : Step). reached s ports k w.far w.far_port) o [])) 0 ≡ cond a (cond b 0 (option_map_or (λ (w : Step). count_by (is_same_dp t) (reached s ports k w.far w.far_port)) o 0)) 0
        each x false b o = refl
        each x true true o = refl
        each x true false None = refl
        each x true false (Some w) = sym (count_is (is_same_dp t) (reached s ports k w.far w.far_port))

    module _ (have : HaveTreePorts s ports) (r : DpId) (t_root : IsRoot s t r) where
      abbrev bring : DpId → ℕ → ℕ
      bring = brings s is r ports have t t_root (λ y. 1) 1 (λ y e q b. refl)

      through_is : (k : ℕ) (d : DpId) (port : ℕ) → along s is r ports (count k) d port ≡ total (through k d port) (ports d)
      unfolding through
      through_is k d port = along_is s is r ports (count k) d port

      claim : (k : ℕ) (d : DpId) (port : ℕ) → Place s is r d port → size s is r d port ≤ k → count k d port ≡ bring d port
      claim zero d port place small = let some = size_some s is r d port place in absurd (omega (arith, some, small))
      claim (suc k) d port place small =
          count_next k d port
          ∙ ap (λ (n : ℕ). cond (is_same_dp t d) 1 0 + n) (sym (through_is k d port))
          ∙ brought s is r ports have t t_root (λ y. 1) 1 (λ y e q b. refl) (count k) k (λ e q f u b. claim k e q) d port place small

    none_by : (k : ℕ) (d : DpId) (port : ℕ) → (IsJoined s d t → ⊥) → (x : ℕ) → ((e : DpId) (q : ℕ) → (IsJoined s e t → ⊥) → count k e q ≡ 0) → through k d port x ≡ 0
    unfolding through
    none_by k d port apart x further = by (is_tree_port s d x) (x == port) (step_at s d x) refl
      where
        by : (a b : Bool) (o : Option Step) → step_at s d x ≡ o → cond a (cond b 0 (option_map_or (λ (w : Step). count k w.far w.far_port) o 0)) 0 ≡ 0
        by false b o e = refl
        by true true o e = refl
        by true false None e = refl
        by true false (Some w) e =
            let joined = linked s is d x w.far w.far_port (step_leads s is d x w e) in
            further w.far w.far_port (λ on. apart (joined_trans s joined.0 d w.far t joined.1 on))

    -- nothing comes out of the part
    never : (k : ℕ) (d : DpId) (port : ℕ) → (IsJoined s d t → ⊥) → IsNode s t → count k d port ≡ 0
    unfolding count reached
    never zero d port apart node = refl
    never (suc k) d port apart node =
        let none : is_same_dp t d ≡ false = false_from_ne_true (is_same_dp t d) (λ same. apart (subst (λ x. IsJoined s x t) (same_dp t d same) (zero, (node, refl)))) in
        let rest = total_none (through k d port) (ports d) (λ x c. none_by k d port apart x (λ e q out. never k e q out node)) in
        count_next k d port ∙ rw none (omega (arith, rest))

  -- with more datapaths in a row no more come
  module _ (r : DpId) where
    reached_same : (k j : ℕ) (d : DpId) (port : ℕ) → Place s is r d port → size s is r d port ≤ k → size s is r d port ≤ j → reached s ports k d port ≡ reached s ports j d port
    unfolding reached
    reached_same zero j d port place small small_too = let some = size_some s is r d port place in absurd (omega (arith, some, small))
    reached_same (suc k) zero d port place small small_too = let some = size_some s is r d port place in absurd (omega (arith, some, small_too))
    reached_same (suc k) (suc j) d port place small small_too =
        ap (λ (l : List DpId). d ∷ l)
        (flat_same (λ x. option_map_or (λ (w : Step). reached s ports k w.far w.far_port) (step_at s d x) []) (λ x. option_map_or (λ (w : Step). reached s ports j w.far w.far_port) (step_at s d x) []) (is_onward s d port) (ports d)
        (λ x c passes.
        let both = and_parts (is_tree_port s d x) (not (x == port)) passes in
        let b = branch_of s is r d x place.root both.0 in
        let w = step_of s is d x b.0 b.1 (branch_link s is r d x b.0 b.1 b.2) in
        let less = size_less s is r d port x b.0 b.1 place b.2 (λ same. both_ways (not (x == port)) (not_from_true (x == port) (eq-eqb x port same)) both.1) in
        let there = beyond s is r d x b.0 b.1 place.root b.2 in
        let more = reached_same k j b.0 b.1 there (omega (arith, less, small)) (omega (arith, less, small_too)) in
        let w_is : step_at s d x ≡ Some w.step = w.is in
        rw w_is (subst (λ e. reached s ports k e w.step.far_port ≡ reached s ports j e w.step.far_port) (sym w.far) (subst (λ q. reached s ports k b.0 q ≡ reached s ports j b.0 q) (sym w.far_port) more))))

pub flood_once : (s : Stack) → IsStack s → (ports : DpId → List ℕ) → HaveTreePorts s ports → (d t : DpId) (port k : ℕ) → IsNoEnd s d port → length s.nodes ≤ k → IsJoined s d t → count_by (is_same_dp t) (reached s ports k d port) ≡ 1
unfolding count
flood_once s is ports have d t port k free enough joined =
    let r = root_exists s is d (walk_start s is joined.0 d t joined.1) in
    let t_root = root_shared s is d t r.0 joined r.1 in
    let most = size_most s is r.0 d port in
    claim s is ports t have r.0 t_root k d port (record { root = r.1; entry = inr free }) (omega (arith, most, enough))
    ∙ brings_is s is r.0 ports have t t_root (λ y. 1) 1 (λ y e q b. refl) d port
    ∙ ap (λ b. cond (is_same_dp t d) 1 (cond b 0 1)) (free_toward s is r.0 d port t free)
    ∙ either_one (is_same_dp t d)
  where
    either_one : (b : Bool) → ◌≡◌ {A = ℕ} (cond b 1 1) 1
    either_one true = refl
    either_one false = refl

pub flood_elsewhere : (s : Stack) → IsStack s → (ports : DpId → List ℕ) → (d t : DpId) (port k : ℕ) → IsNode s t → (IsJoined s d t → ⊥) → count_by (is_same_dp t) (reached s ports k d port) ≡ 0
unfolding count
flood_elsewhere s is ports d t port k node apart = never s is ports t k d port apart node

pub flood_ends : (s : Stack) → IsStack s → (ports : DpId → List ℕ) → (d : DpId) (port k : ℕ) → IsNode s d → IsNoEnd s d port → length s.nodes ≤ k → reached s ports k d port ≡ reached s ports (length s.nodes) d port
flood_ends s is ports d port k node free enough =
    let r = root_exists s is d node in
    let most = size_most s is r.0 d port in
    reached_same s is ports r.0 k (length s.nodes) d port (record { root = r.1; entry = inr free }) (omega (arith, most, enough)) most
