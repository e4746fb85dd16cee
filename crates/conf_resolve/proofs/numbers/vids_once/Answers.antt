use Rattle.std.proofs.Common.{rules, ◌∙◌, ap}
use Rattle.conf_resolve.specs.Resolved.{once}
use Rattle.conf_resolve.specs.Added.{with_numbers}
use Rattle.conf_resolve.proofs.Once.{next_number, with_numbers_is}
use Rattle.conf_resolve.proofs.numbers.vids_once.Goals as goal

pub loop-vid-init : goal.loop-vid-init
loop-vid-init c = (ap (λ ns. with_numbers ns c.args.vids.now) c.new-made.ensures ∙ with_numbers_is c.args.vids.now, search rules)

pub loop-vid-preserved : goal.loop-vid-preserved
loop-vid-preserved c =
    (next_number (once c.args.vids.now) c.loop-vid.made c.push_vid.new.vids c.args.vids.now c.loop-vid.vid-index c.vid-item.result c.loop-vid-test.true c.vid-item.is c.loop-vid.invariant.0 c.in_ok-push_vid.ensures.vids, c.in_ok-push_vid.ensures.seen)
