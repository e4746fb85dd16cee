use Rattle.std.proofs.Common.{arith}
use Rattle.net_base.proofs.Printed6.{net6_utf8}
use Rattle.net_base.proofs.net6.append_net6.Goals as goal

pub append_utf8-requires : goal.append_utf8-requires
append_utf8-requires c = rw c.put_net6-end.ensures.written (net6_utf8 c.args.ip c.args.len (omega arith))
