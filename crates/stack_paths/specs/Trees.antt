use Rattle.std.specs.Prelude.{◌≡◌, ◌⊎◌, ◌↔◌, ◌<◌, ℕ, List, length, Option, Some, Contains, slice_index_or, slice_get}
use Rattle.std.specs.List.Sorted.{IsStrictlyIncreasing}
use Rattle.net_base.specs.declared.stack.Node.{Node}
use Rattle.stack_paths.specs.declared.hops.Hop.{Hop}
use Rattle.stack_paths.specs.declared.ways.Ways.{Ways}
use Rattle.stack_paths.specs.Stack.{RanksFirst}
use Rattle.stack_paths.specs.Hops.{answer_at}

-- as a root, the datapath at place i goes before the one at place j or is it
pub record PlaceRanksFirst (nodes : List Node) (i j : ℕ) : Type 0 where
  pub m : Node
  pub n : Node
  pub at_i : slice_get nodes i ≡ Some m
  pub at_j : slice_get nodes j ≡ Some n
  pub ranks : RanksFirst m.priority i n.priority j

-- place r is the first of those with a distance
pub record IsRootPlace (nodes : List Node) (distances : List (Option ℕ)) (r : ℕ) : Type 0 where
  pub joined : (n : ℕ) × (answer_at distances r ≡ Some n)
  pub first : (j n : ℕ) → answer_at distances j ≡ Some n → PlaceRanksFirst nodes r j

-- each place's root is the first of those from which there is a way to it
abbrev pub IsRootOf : List Node → List Ways → ℕ → ℕ → Type 0
IsRootOf nodes ways i r = (r < length nodes) × ((d : Ways) → IsRootPlace nodes (slice_index_or ways i d).distances.items r)

abbrev pub AreRoots : List Node → List Ways → List ℕ → Type 0
AreRoots nodes ways roots = (i : ℕ) (x : ℕ) → i < length roots → IsRootOf nodes ways i (slice_index_or roots i x)

-- each place has distances of the right number, with one to itself
abbrev pub ReachThemselves : ℕ → List Ways → Type 0
ReachThemselves count ways = (i : ℕ) (d : Ways) → i < length ways → (length (slice_index_or ways i d).distances.items ≡ count) × ((n : ℕ) × (answer_at (slice_index_or ways i d).distances.items i ≡ Some n))

-- h is the first hop from place i to its root
pub record UplinkAt (ways : List Ways) (roots : List ℕ) (i : ℕ) (h : Hop) : Type 0 where
  pub root : ℕ
  pub to_root : Ways
  pub is_root : slice_get roots i ≡ Some root
  pub is_to_root : slice_get ways root ≡ Some to_root
  pub first : answer_at to_root.hops.items i ≡ Some h

-- the uplinks of all places
pub record AreUplinks (ways : List Ways) (roots : List ℕ) (uplinks : List Hop) : Type 0 where
  pub sound : (h : Hop) → Contains uplinks h → (i : ℕ) × UplinkAt ways roots i h
  pub complete : (i : ℕ) (h : Hop) → UplinkAt ways roots i h → Contains uplinks h

-- port p of place i is an end of the hop
abbrev pub IsEndOf : Hop → ℕ → ℕ → Type 0
IsEndOf h i p = ((h.from ≡ i) × (h.port ≡ p)) ⊎ ((h.to ≡ i) × (h.far_port ≡ p))

-- port p of place i is an end of some uplink
abbrev pub IsEndOfSome : List Hop → ℕ → ℕ → Type 0
IsEndOfSome uplinks i p = (h : Hop) × Contains uplinks h × IsEndOf h i p

-- the ports of a place that are ends of uplinks, in ascending order
pub record IsTreeOf (uplinks : List Hop) (i : ℕ) (ports : List ℕ) : Type 0 where
  pub ends : (p : ℕ) → Contains ports p ↔ IsEndOfSome uplinks i p
  pub ascending : IsStrictlyIncreasing ports
