use Rattle.std.proofs.Common.{arith}
use Rattle.of13_codec.proofs.DecodeLaws.{frame_says}
use Rattle.of13_codec.proofs.Spelled.{frame_read}
use Rattle.of13_codec.proofs.codec.decode.Goals as goal

pub returns-clause-spelled : goal.returns-clause-spelled
returns-clause-spelled c = (frame_says c.args.frame.now c.read_frame.result (λ i. omega (arith, c.type_inv.frame i)) c.read_frame.ensures.exact).0

pub returns-clause-complete : goal.returns-clause-complete
returns-clause-complete c = frame_read c.args.frame.now c.read_frame.result c.read_frame.ensures.exact

pub returns-clause-first : goal.returns-clause-first
returns-clause-first c = (frame_says c.args.frame.now c.read_frame.result (λ i. omega (arith, c.type_inv.frame i)) c.read_frame.ensures.exact).1
