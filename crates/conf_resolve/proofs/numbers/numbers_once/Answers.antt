use Rattle.std.proofs.Common.{rules, ◌∙◌, ap}
use Rattle.conf_resolve.specs.Resolved.{once}
use Rattle.conf_resolve.specs.Added.{with_numbers}
use Rattle.conf_resolve.proofs.Once.{next_number, with_numbers_is}
use Rattle.conf_resolve.proofs.numbers.numbers_once.Goals as goal

pub loop-number-init : goal.loop-number-init
loop-number-init c = (ap (λ ns. with_numbers ns c.args.numbers.now) c.new-made.ensures ∙ with_numbers_is c.args.numbers.now, search rules)

pub loop-number-preserved : goal.loop-number-preserved
loop-number-preserved c =
    (next_number (once c.args.numbers.now) c.loop-number.made c.push_number.new.numbers c.args.numbers.now c.loop-number.number-index c.number-item.result c.loop-number-test.true c.number-item.is c.loop-number.invariant.0 c.in_ok-push_number.ensures.numbers, c.in_ok-push_number.ensures.seen)
