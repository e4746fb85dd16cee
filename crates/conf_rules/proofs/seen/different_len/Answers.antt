use Rattle.std.proofs.Common.{arith}
use Rattle.conf_rules.proofs.SeenNumbers.{different_more}
use Rattle.conf_rules.proofs.seen.different_len.Goals as goal

pub loop-i-preserved : goal.loop-i-preserved
loop-i-preserved c =
    different_more c.loop-i.seen _ c.args.numbers.now c.loop-i.i _ _ (omega arith) (omega arith) c.loop-i.invariant c.in_ok-see_number.ensures.was c.in_ok-see_number.ensures.is c.in_ok-see_number.ensures.len
