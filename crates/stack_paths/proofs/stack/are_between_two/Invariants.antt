use Rattle.std.proofs.Common.{◌≡◌, ◌<◌, ℕ, get_or, slice_get, Some}
use Rattle.net_base.specs.declared.stack.StackLink.{StackLink}
use Rattle.stack_paths.specs.Stack.{ids}
use Rattle.stack_paths.proofs.stack.are_between_two.Given as goal

abbrev pub invariant-loop-link : goal.invariant-loop-link
invariant-loop-link l = (k : ℕ) (d : StackLink) → k < l.link-index →
    ((i : ℕ) × (slice_get (ids l.nodes) i ≡ Some (get_or l.links k d).a)) × ((i : ℕ) × (slice_get (ids l.nodes) i ≡ Some (get_or l.links k d).b)) × ((get_or l.links k d).a ≡ (get_or l.links k d).b → ⊥)
