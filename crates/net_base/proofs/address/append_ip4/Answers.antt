use Rattle.std.proofs.Common.{arith}
use Rattle.net_base.proofs.Addresses.{ip4_utf8}
use Rattle.net_base.proofs.address.append_ip4.Goals as goal

pub append_utf8-requires : goal.append_utf8-requires
append_utf8-requires c = rw c.put_ip4-end.ensures.written (ip4_utf8 c.args.ip (omega arith))
