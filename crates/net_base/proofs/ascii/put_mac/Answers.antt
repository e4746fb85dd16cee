use Rattle.std.proofs.Common.{arith, take, drop, get_or}
use Rattle.net_base.specs.Address.{pair_text}
use Rattle.net_base.proofs.Addresses.{utf8_more, pairs_more}
use Rattle.net_base.proofs.ascii.put_mac.Goals as goal

pub loop-byte-preserved : goal.loop-byte-preserved
loop-byte-preserved c =
    let i = c.loop-byte.byte-index in
    let items = take 5 (drop 1 c.args.mac) in
    record {
      place = omega arith;
      written = pairs_more items (pair_text (get_or c.args.mac 0 0)) (take c.loop-byte.at c.loop-byte.buffer) (take c.put-at.result c.put-at.new.buffer) (take c.put_pair-at-in-loop-byte.result c.put_pair-at-in-loop-byte.new.buffer) i
          c.loop-byte-test.true c.put-at.ensures.written c.put_pair-at-in-loop-byte.ensures.written c.loop-byte.invariant.written;
      utf8 = utf8_more (take c.loop-byte.at c.loop-byte.buffer) (take c.put-at.result c.put-at.new.buffer) (take c.put_pair-at-in-loop-byte.result c.put_pair-at-in-loop-byte.new.buffer) (pair_text (get_or items i 0))
          c.put-at.ensures.written c.put_pair-at-in-loop-byte.ensures.written c.loop-byte.invariant.utf8 c.put_pair-at-in-loop-byte.ensures.utf8;
    }
