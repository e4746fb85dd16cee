-- Distances, next hops, uplinks and tree ports as functions. What they give is what the relations of
-- Stack.antt ask for, for every stack: the law `distances_hops_and_trees_are_functions`.
use Rattle.std.specs.Prelude.{ℕ, zero, suc, ◌==◌, ◌&&◌, ◌||◌, Bool, true, false, Option, Some, None, List, [], ◌∷◌, length, filter, is_some, nat_lt, if◌then◌else◌}
use Rattle.std.specs.List.{list_any}
use Rattle.std.specs.Option.{option_and_then, option_map, option_map_or, option_or}
use Rattle.net_base.specs.declared.numbers.DpId.{DpId}
use Rattle.net_base.specs.declared.stack.Node.{Node}
use Rattle.net_base.specs.declared.stack.StackLink.{StackLink}
use Rattle.stack_paths.specs.Stack.{Stack}

-- ---- links in one direction

-- a link leads from a port of one datapath to a port of another
pub record Step : Type 0 where
  pub near : DpId
  pub port : ℕ
  pub far : DpId
  pub far_port : ℕ

abbrev pub forth : StackLink → Step
forth l = record { near = l.a; port = l.a_port; far = l.b; far_port = l.b_port }

abbrev pub back : StackLink → Step
back l = record { near = l.b; port = l.b_port; far = l.a; far_port = l.a_port }

-- each link leads both ways
abbrev pub steps : List StackLink → List Step
steps [] = []
steps (l ∷ ls) = forth l ∷ back l ∷ steps ls

abbrev pub is_same_dp : DpId → DpId → Bool
is_same_dp a b = a.0 == b.0

-- ---- distances

abbrev pub is_node : Stack → DpId → Bool
is_node s d = list_any (λ node. is_same_dp node.id d) s.nodes

-- a walk of n links leads from a to b
unfoldable pub is_walk : Stack → DpId → DpId → ℕ → Bool
is_walk s a b zero = is_same_dp a b && is_node s a
is_walk s a b (suc n) = list_any (λ t. is_same_dp t.near a && is_walk s t.far b n) (steps s.links)

-- the least number below a bound that passes a test
unfoldable pub least_below : (ℕ → Bool) → ℕ → Option ℕ
least_below test zero = None
least_below test (suc n) = option_or (least_below test n) (if test n then Some n else None)

-- the length of a shortest walk, which is below the number of datapaths
unfoldable pub distance_of : Stack → DpId → DpId → Option ℕ
distance_of s a b = least_below (is_walk s a b) (length s.nodes)

-- ---- what goes first

-- the first of a list in an order
abbrev pub first_in : {X : Type 0} → (X → X → Bool) → List X → Option X
first_in before [] = None
first_in before (x ∷ xs) = Some (option_map_or (λ y. if before y x then y else x) (first_in before xs) x)

-- where a datapath stands among the nodes
abbrev pub place_of : List Node → DpId → ℕ
place_of [] d = 0
place_of (node ∷ nodes) d = if is_same_dp node.id d then 0 else suc (place_of nodes d)

-- the first of two numbers decides, and where they are equal the second
abbrev pub is_below : ℕ → ℕ → ℕ → ℕ → Bool
is_below i p j q = nat_lt i j || (i == j && nat_lt p q)

-- ---- next hops

-- the first distance is one more than the second
abbrev pub is_one_more : Option ℕ → Option ℕ → Bool
is_one_more (Some m) (Some n) = m == suc n
is_one_more m n = false

-- the link leads from a to a datapath that is one link nearer to b
unfoldable pub leads_nearer : Stack → DpId → DpId → Step → Bool
leads_nearer s a b t = is_same_dp t.near a && is_one_more (distance_of s a b) (distance_of s t.far b)

-- by the order of the datapaths that the links lead to, then by a's own port
abbrev pub is_chosen_before : Stack → Step → Step → Bool
is_chosen_before s t u = is_below (place_of s.nodes t.far) t.port (place_of s.nodes u.far) u.port

-- the link by which a sends towards b
unfoldable pub hop_link : Stack → DpId → DpId → Option Step
hop_link s a b = first_in (is_chosen_before s) (filter (leads_nearer s a b) (steps s.links))

-- the port by which a sends towards b
unfoldable pub hop_of : Stack → DpId → DpId → Option ℕ
hop_of s a b = option_map (λ t. t.port) (hop_link s a b)

-- ---- the tree

-- the lesser priority goes first, one without a priority after all with one, then the lesser place
abbrev pub ranks_before : Option ℕ → ℕ → Option ℕ → ℕ → Bool
ranks_before (Some p) i (Some q) j = is_below p i q j
ranks_before (Some p) i None j = true
ranks_before None i (Some q) j = false
ranks_before None i None j = nat_lt i j

abbrev pub is_root_before : Stack → Node → Node → Bool
is_root_before s m n = ranks_before m.priority (place_of s.nodes m.id) n.priority (place_of s.nodes n.id)

-- the root of the part of a datapath: the first of all that are joined to it
unfoldable pub root_of : Stack → DpId → Option Node
root_of s d = first_in (is_root_before s) (filter (λ node. is_some (distance_of s node.id d)) s.nodes)

-- the link by which a datapath sends towards its root
unfoldable pub uplink_of : Stack → DpId → Option Step
uplink_of s d = option_and_then (λ root. hop_link s d root.id) (root_of s d)

-- port p of d is an end of the link
abbrev pub is_end_of : DpId → ℕ → Step → Bool
is_end_of d p t = (is_same_dp t.near d && t.port == p) || (is_same_dp t.far d && t.far_port == p)

-- port p of d is an end of some uplink
unfoldable pub is_tree_port : Stack → DpId → ℕ → Bool
is_tree_port s d p = list_any (λ node. option_map_or (is_end_of d p) (uplink_of s node.id) false) s.nodes
