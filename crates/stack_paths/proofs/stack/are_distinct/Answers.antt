use Rattle.std.proofs.Common.{◌≡◌, None, refl, arith}
use Rattle.std.proofs.lemmas.Bool.{false≢true}
use Rattle.net_base.specs.declared.stack.Node.{Node}
use Rattle.stack_paths.proofs.Pairs.{pairs_step, not_pairs}
use Rattle.stack_paths.proofs.stack.are_distinct.Goals as goal

-- what a read past the end would give
nothing : Node
nothing = record { id = record { 0 = 0 }; priority = None }

pub returns-then-not-is_new : goal.returns-then-not-is_new
unfolding nothing
returns-then-not-is_new c = (
  λ t. absurd (false≢true t),
  λ pairs. absurd (not_pairs (λ (m n : Node). m.id ≡ n.id → ⊥) c.args.nodes.now c.loop-place.place (omega arith) nothing (λ all. false≢true (c.if-not-is_new.ensures.1 all)) pairs),
)

pub loop-place-preserved : goal.loop-place-preserved
unfolding nothing
loop-place-preserved c = pairs_step (λ (m n : Node). m.id ≡ n.id → ⊥) c.args.nodes.now c.loop-place.place (omega arith) nothing c.loop-place.invariant (c.if-not-is_new.ensures.0 refl)
