use Rattle.std.proofs.Common.{◌≡◌, ◌<◌, ℕ, get_or}
use Rattle.net_base.specs.declared.stack.Node.{Node}
use Rattle.stack_paths.proofs.stack.is_new.Given as goal

abbrev pub invariant-loop-node : goal.invariant-loop-node
invariant-loop-node l = (k : ℕ) (d : Node) → k < l.node-index → (get_or l.nodes k d).id ≡ l.dp → ⊥
