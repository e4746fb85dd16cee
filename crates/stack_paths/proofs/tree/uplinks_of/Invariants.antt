use Rattle.std.proofs.Common.{ℕ, ◌<◌}
use Rattle.std.specs.Prelude.{Contains}
use Rattle.stack_paths.specs.declared.hops.Hop.{Hop}
use Rattle.stack_paths.specs.Trees.{UplinkAt}
use Rattle.stack_paths.proofs.tree.uplinks_of.Given as goal

abbrev pub invariant-loop-place : goal.invariant-loop-place
invariant-loop-place l = record {
  sound : (h : Hop) → Contains l.uplinks.items h → (i : ℕ) × UplinkAt l.ways l.roots i h;
  complete : (i : ℕ) → i < l.place → (h : Hop) → UplinkAt l.ways l.roots i h → Contains l.uplinks.items h;
}
