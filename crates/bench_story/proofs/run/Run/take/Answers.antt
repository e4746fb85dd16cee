use Rattle.bench_story.proofs.Runs.{on_ok, taken}
use Rattle.bench_story.proofs.run.Run.take.Goals as goal

pub returns : goal.returns
returns g c = λ k knows.
    on_ok c.put_replies.result
    (λ owes. taken c.args.self.now _ c.args.what.now c.args.self.now.owed k c.in_ok-sayings.sayings knows (c.in_ok-sayings.ensures.says k.known knows.known)
    (c.in_ok-sayings.ensures.known k.known knows.known) (rw c.as_slice.ensures at c.in_ok-add.ensures.batches) (rw c.as_slice.ensures at c.in_ok-add.ensures.commands) (rw c.as_slice.ensures at c.in_ok-add.ensures.sum)
    (rw c.as_slice-2.ensures at owes))
    c.put_replies.ensures
