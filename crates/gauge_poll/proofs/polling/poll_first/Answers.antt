use Rattle.std.proofs.Common.{refl}
use Rattle.std.proofs.lemmas.List.{drop_all}
use Rattle.gauge_poll.specs.Polls.{poll_first, poll_begun}
use Rattle.gauge_poll.specs.StandsFor.{Keeps}
use Rattle.gauge_poll.proofs.Keeping.{all_done, item_done, set_out}
use Rattle.gauge_poll.proofs.polling.poll_first.Goals as goal

pub loop-place-init : goal.loop-place-init
loop-place-init c = λ s keeps. set_out Keeps c.args.known.now s (poll_first 0 c.args.watchers.now c.args.dp) keeps

pub loop-place-preserved : goal.loop-place-preserved
loop-place-preserved c = λ s keeps.
    let dp = c.args.dp in
    item_done Keeps (λ i ws t. poll_first i ws dp t) (λ w i t. poll_begun w i dp t) (λ i w ws t. refl) (λ i t. refl) c.args.watchers.now c.loop-place.place c.loop-place.known (poll_first 0 c.args.watchers.now dp s)
    c.index-watchers-place.result c.poll_begun.new.known c.loop-place-test.true c.index-watchers-place.is c.in_ok-poll_begun.ensures (c.loop-place.invariant s keeps)

pub returns : goal.returns
returns c = λ s keeps.
    let dp = c.args.dp in
    all_done Keeps (λ i ws t. poll_first i ws dp t) (λ w i t. poll_begun w i dp t) (λ i w ws t. refl) (λ i t. refl) c.args.watchers.now c.loop-place.place c.loop-place.known (poll_first 0 c.args.watchers.now dp s)
    (drop_all c.loop-place.place c.args.watchers.now c.loop-place-test.false) (c.loop-place.invariant s keeps)
