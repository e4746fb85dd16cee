use Rattle.std.proofs.Common.{length}
use Rattle.ctl_core.proofs.gateways.+want_gateways.Given as goal

abbrev pub decreases-want_gateways : goal.decreases-want_gateways
decreases-want_gateways l = length l.vlans.now
