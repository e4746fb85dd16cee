use Rattle.std.proofs.Common.{arith}
use Rattle.net_base.proofs.Cut.{goes_on}
use Rattle.net_base.proofs.address.cut.Goals as goal

pub loop-n-preserved : goal.loop-n-preserved
loop-n-preserved c = record {
  within = omega arith;
  rest = goes_on c.args.mark c.args.bytes.now c.loop-n.n _ c.loop-n.invariant.rest c.loop-n-test.true c.if-bytes-n.false;
}
