use Rattle.std.proofs.Common.{◌≡◌, ℕ, List, Some, slice_get, refl, arith}
use Rattle.net_base.specs.declared.stack.Node.{Node}
use Rattle.net_base.specs.declared.stack.StackLink.{StackLink}
use Rattle.stack_paths.specs.Stack.{ids}
use Rattle.stack_paths.proofs.Pairs.{all_step}
use Rattle.stack_paths.proofs.stack.are_between_two.Goals as goal

abbrev Between : List Node → StackLink → Type 0
Between nodes l = ((i : ℕ) × (slice_get (ids nodes) i ≡ Some l.a)) × ((i : ℕ) × (slice_get (ids nodes) i ≡ Some l.b)) × (l.a ≡ l.b → ⊥)

pub loop-link-preserved : goal.loop-link-preserved
loop-link-preserved c = all_step (λ (l : StackLink). Between c.args.nodes.now l) c.args.links.now c.loop-link.link-index c.link-item.result (omega arith) c.link-item.is c.loop-link.invariant (c.if-not-is_between_two.ensures.0 refl)

pub returns : goal.returns
returns c = (λ _ k d within. c.loop-link.invariant k d (omega arith), λ _. refl)
