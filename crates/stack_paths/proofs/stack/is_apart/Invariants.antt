use Rattle.std.proofs.Common.{◌<◌, ℕ, get_or}
use Rattle.net_base.specs.declared.stack.StackLink.{StackLink}
use Rattle.stack_paths.specs.Stack.{ArePortsApart}
use Rattle.stack_paths.proofs.stack.is_apart.Given as goal

abbrev pub invariant-loop-other : goal.invariant-loop-other
invariant-loop-other l = (k : ℕ) (d : StackLink) → k < l.other-index → ArePortsApart (get_or l.links k d) l.link
