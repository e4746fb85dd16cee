use Rattle.std.proofs.Common.{ℕ, ◌↔◌, take}
use Rattle.std.specs.Prelude.{Contains}
use Rattle.stack_paths.specs.Trees.{IsEndOfSome}
use Rattle.stack_paths.proofs.tree.ends_at.Given as goal

abbrev pub invariant-loop-hop : goal.invariant-loop-hop
invariant-loop-hop l = (p : ℕ) → Contains l.ports.items p ↔ IsEndOfSome (take l.hop-index l.uplinks) l.place p
