use Rattle.std.proofs.Common.{◌∙◌, sym}
use Rattle.bench_story.proofs.Ports.{ports-more, ports-none}
use Rattle.bench_story.proofs.switch.make_ports.Goals as goal

pub loop-at-init : goal.loop-at-init
loop-at-init c = c.new-made.ensures ∙ sym ports-none

pub loop-at-preserved : goal.loop-at-preserved
loop-at-preserved c = c.in_ok-push.ensures.ok ∙ ports-more c.loop-at.at _ _ c.loop-at.invariant c.in_ok-make_port.ensures
