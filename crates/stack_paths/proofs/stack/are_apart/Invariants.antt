use Rattle.std.proofs.Common.{◌<◌, ℕ, get_or}
use Rattle.net_base.specs.declared.stack.StackLink.{StackLink}
use Rattle.stack_paths.specs.Stack.{ArePortsApart}
use Rattle.stack_paths.proofs.stack.are_apart.Given as goal

abbrev pub invariant-loop-place : goal.invariant-loop-place
invariant-loop-place l = (i j : ℕ) (d : StackLink) → i < j → j < l.place → ArePortsApart (get_or l.links i d) (get_or l.links j d)
