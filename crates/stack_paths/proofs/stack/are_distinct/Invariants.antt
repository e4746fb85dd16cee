use Rattle.std.proofs.Common.{◌≡◌, ◌<◌, ℕ, get_or}
use Rattle.net_base.specs.declared.stack.Node.{Node}
use Rattle.stack_paths.proofs.stack.are_distinct.Given as goal

abbrev pub invariant-loop-place : goal.invariant-loop-place
invariant-loop-place l = (i j : ℕ) (d : Node) → i < j → j < l.place → (get_or l.nodes i d).id ≡ (get_or l.nodes j d).id → ⊥
