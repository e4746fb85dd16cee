use Rattle.std.proofs.Common.{◌≡◌}
use Rattle.bench_story.specs.Switch.{ports}
use Rattle.bench_story.proofs.switch.make_ports.Given as goal

abbrev pub invariant-loop-at : goal.invariant-loop-at
invariant-loop-at l = l.made ≡ ports l.at
