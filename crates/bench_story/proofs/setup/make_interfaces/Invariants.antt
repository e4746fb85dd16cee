use Rattle.std.proofs.Common.{◌≡◌}
use Rattle.bench_story.specs.Setup.{interfaces}
use Rattle.bench_story.proofs.setup.make_interfaces.Given as goal

abbrev pub invariant-loop-at : goal.invariant-loop-at
invariant-loop-at l = l.made ≡ interfaces l.at
