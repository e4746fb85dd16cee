use Rattle.bench_story.specs.Story.{StandsFor, after, opened}
use Rattle.bench_story.proofs.run.Run.bring_hosts.Given as goal

abbrev pub invariant-loop-host : goal.invariant-loop-host
invariant-loop-host g l = StandsFor l.fn.self opened → StandsFor l.self (after l.host)
