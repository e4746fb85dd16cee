use Rattle.std.proofs.Common.{arith}
use Rattle.net_base.proofs.Addresses.{net4_utf8}
use Rattle.net_base.proofs.net4.append_net4.Goals as goal

pub append_utf8-requires : goal.append_utf8-requires
append_utf8-requires c = rw c.put_net4-end.ensures.written (net4_utf8 c.args.ip c.args.len (omega arith) (omega arith))
