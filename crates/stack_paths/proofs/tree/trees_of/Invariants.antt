use Rattle.std.proofs.Common.{◌≡◌, ◌<◌, ℕ, vec_len, length, Vec, Global}
use Rattle.std.specs.Prelude.{slice_index_or}
use Rattle.stack_paths.specs.Trees.{IsTreeOf}
use Rattle.stack_paths.proofs.tree.trees_of.Given as goal

abbrev pub invariant-loop-place : goal.invariant-loop-place
invariant-loop-place l =
    (vec_len l.trees ≡ l.place) × ((i : ℕ) (d : Vec ℕ Global) → i < length l.trees.items → IsTreeOf l.uplinks i (slice_index_or l.trees.items i d).items)
