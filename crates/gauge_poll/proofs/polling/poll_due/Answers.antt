use Rattle.std.proofs.Common.{refl}
use Rattle.std.proofs.lemmas.List.{drop_all}
use Rattle.gauge_poll.specs.Polls.{poll_due, poll_for}
use Rattle.gauge_poll.specs.StandsFor.{Keeps}
use Rattle.gauge_poll.proofs.Keeping.{all_done, item_done, set_out}
use Rattle.gauge_poll.proofs.polling.poll_due.Goals as goal

pub loop-place-init : goal.loop-place-init
loop-place-init c = λ s keeps. set_out Keeps c.args.known.now s (poll_due 0 c.args.watchers.now) keeps

pub loop-place-preserved : goal.loop-place-preserved
loop-place-preserved c = λ s keeps.
    item_done Keeps poll_due poll_for (λ i w ws t. refl) (λ i t. refl) c.args.watchers.now c.loop-place.place c.loop-place.known (poll_due 0 c.args.watchers.now s)
    c.index-watchers-place.result c.poll_for.new.known c.loop-place-test.true c.index-watchers-place.is c.in_ok-poll_for.ensures (c.loop-place.invariant s keeps)

pub returns : goal.returns
returns c = λ s keeps.
    all_done Keeps poll_due poll_for (λ i w ws t. refl) (λ i t. refl) c.args.watchers.now c.loop-place.place c.loop-place.known (poll_due 0 c.args.watchers.now s)
    (drop_all c.loop-place.place c.args.watchers.now c.loop-place-test.false) (c.loop-place.invariant s keeps)
