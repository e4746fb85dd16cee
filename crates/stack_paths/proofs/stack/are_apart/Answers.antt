use Rattle.std.proofs.Common.{take, refl, sym, subst, arith}
use Rattle.std.specs.Prelude.{All}
use Rattle.std.proofs.lemmas.Bool.{false≢true}
use Rattle.net_base.specs.declared.stack.StackLink.{StackLink}
use Rattle.stack_paths.specs.Stack.{ArePortsApart}
use Rattle.stack_paths.proofs.Pairs.{pairs_step, not_pairs}
use Rattle.stack_paths.proofs.stack.are_apart.Goals as goal

pub returns-then-not-is_apart : goal.returns-then-not-is_apart
returns-then-not-is_apart c =
    let links = c.args.links.now in
    let place = c.loop-place.place in
    let link = c.index-links-place.result in (
      λ t. absurd (false≢true t),
      λ pairs. absurd (not_pairs ArePortsApart links place (omega arith) link
          (λ all. false≢true (c.if-not-is_apart.ensures.1 (subst (λ (x : StackLink). All (λ y. ArePortsApart y x) (take place links)) (sym c.index-links-place.is) all))) pairs),
    )

pub loop-place-preserved : goal.loop-place-preserved
loop-place-preserved c =
    let links = c.args.links.now in
    let place = c.loop-place.place in
    pairs_step ArePortsApart links place (omega arith) c.index-links-place.result c.loop-place.invariant
    (subst (λ (x : StackLink). All (λ y. ArePortsApart y x) (take place links)) c.index-links-place.is (c.if-not-is_apart.ensures.0 refl))

pub returns : goal.returns
returns c = (λ _ i j d lt within. c.loop-place.invariant i j d lt (omega arith), λ _. refl)
