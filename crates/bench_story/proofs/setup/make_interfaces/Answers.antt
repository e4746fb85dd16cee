use Rattle.std.proofs.Common.{◌≡◌, ◌∙◌, ◌+◌, sym, ap, arith}
use Rattle.std.proofs.lemmas.Grind.{common_steps}
use Rattle.bench_story.specs.Setup.{interface}
use Rattle.bench_story.proofs.Valid.{interfaces-more, interfaces-none}
use Rattle.bench_story.proofs.setup.make_interfaces.Goals as goal

pub loop-at-init : goal.loop-at-init
loop-at-init c = c.new-made.ensures ∙ sym interfaces-none

pub loop-at-preserved : goal.loop-at-preserved
loop-at-preserved c =
    let number : c.unwrap-no.result ≡ c.loop-at.at + 1 = grind (arith, common_steps) in
    c.in_ok-push.ensures.ok ∙ interfaces-more c.loop-at.at _ _ c.loop-at.invariant (c.in_ok-make_interface.ensures ∙ ap interface number)
