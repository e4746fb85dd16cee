use Rattle.bench_story.proofs.run.Run.say.Goals as goal

pub returns : goal.returns
returns g c = λ k stands. rw c.as_slice.ensures at (c.hear.ensures k stands)
