use Rattle.std.specs.Prelude.{◌≡◌, ◌<◌, ℕ, List, length, slice_index_or, Vec}
use Rattle.std.specs.declared.alloc.Global.{Global}
use Rattle.stack_paths.specs.declared.hops.Hop.{Hop}
use Rattle.stack_paths.specs.declared.ways.Ways.{Ways}
use Rattle.stack_paths.specs.Stack.{Stack, IsStack}
use Rattle.stack_paths.specs.Hops.{IsHops, AllWays}
use Rattle.stack_paths.specs.Trees.{AreRoots, AreUplinks, IsTreeOf}

-- the tables belong to the stack
pub record AreTables (s : Stack) (ways : List Ways) (roots : List ℕ) (trees : List (Vec ℕ Global)) : Type 0 where
  pub hops : List Hop
  pub uplinks : List Hop
  pub stack : IsStack s
  pub are_hops : IsHops s hops
  pub ways_len : length ways ≡ length s.nodes
  pub are_ways : AllWays hops (length s.nodes) ways
  pub roots_len : length roots ≡ length s.nodes
  pub are_roots : AreRoots s.nodes ways roots
  pub are_uplinks : AreUplinks ways roots uplinks
  pub trees_len : length trees ≡ length s.nodes
  pub are_trees : (i : ℕ) (d : Vec ℕ Global) → i < length s.nodes → IsTreeOf uplinks i (slice_index_or trees i d).items
