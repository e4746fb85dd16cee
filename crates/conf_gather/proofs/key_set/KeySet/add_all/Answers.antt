use Rattle.conf_gather.proofs.KnownLemmas.{none_more, next_more}
use Rattle.conf_gather.proofs.key_set.KeySet.add_all.Goals as goal

pub loop-pair-init : goal.loop-pair-init
loop-pair-init c = none_more c.args.self.now

pub loop-pair-preserved : goal.loop-pair-preserved
loop-pair-preserved c =
    next_more c.args.self.now c.args.pairs.now c.loop-pair.pair-index c.pair-item.result c.loop-pair.self c.add.new.self c.loop-pair-test.true c.pair-item.is c.loop-pair.invariant c.in_ok-add.ensures
