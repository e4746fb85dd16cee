use Rattle.bench_story.proofs.run.Run.open.Goals as goal

pub returns : goal.returns
returns g c = c.in_ok-set_up.ensures c.in_ok-run.ensures
