use Rattle.std.proofs.Common.{refl, arith}
use Rattle.std.proofs.lemmas.Bool.{false≢true}
use Rattle.net_base.specs.declared.stack.StackLink.{StackLink}
use Rattle.stack_paths.specs.Stack.{ArePortsApart}
use Rattle.stack_paths.proofs.Pairs.{all_step, not_all}
use Rattle.stack_paths.proofs.stack.is_apart.Goals as goal

pub returns-then-not-are_ports_apart : goal.returns-then-not-are_ports_apart
returns-then-not-are_ports_apart c = (
  λ t. absurd (false≢true t),
  λ all. absurd (not_all (λ (l : StackLink). ArePortsApart l c.args.link.now) c.args.links.now c.loop-other.other-index c.other-item.result (omega arith) c.other-item.is (λ p. false≢true (c.if-not-are_ports_apart.ensures.1 p)) all),
)

pub loop-other-preserved : goal.loop-other-preserved
loop-other-preserved c = all_step (λ (l : StackLink). ArePortsApart l c.args.link.now) c.args.links.now c.loop-other.other-index c.other-item.result (omega arith) c.other-item.is c.loop-other.invariant (c.if-not-are_ports_apart.ensures.0 refl)

pub returns : goal.returns
returns c = (λ _ k d within. c.loop-other.invariant k d (omega arith), λ _. refl)
