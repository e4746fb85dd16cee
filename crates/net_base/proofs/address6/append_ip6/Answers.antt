use Rattle.net_base.proofs.Printed6.{ip6_utf8}
use Rattle.net_base.proofs.address6.append_ip6.Goals as goal

pub append_utf8-requires : goal.append_utf8-requires
append_utf8-requires c = rw c.put_ip6-end.ensures.written (ip6_utf8 c.args.ip)
