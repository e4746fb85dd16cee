use Rattle.bench_story.proofs.Runs.{on_ok, shown}
use Rattle.bench_story.proofs.run.Run.show.Goals as goal

pub returns : goal.returns
returns g c = λ k stands. on_ok c.take.result (shown _ c.args.moment _ k stands.owed) (c.take.ensures k stands.knows)
