use Rattle.std.proofs.Common.{◌≡◌, vec_len}
use Rattle.stack_paths.specs.Trees.{AreRoots}
use Rattle.stack_paths.proofs.roots.roots_of.Given as goal

abbrev pub invariant-loop-place : goal.invariant-loop-place
invariant-loop-place l = (vec_len l.roots ≡ l.place) × AreRoots l.nodes l.ways l.roots.items
