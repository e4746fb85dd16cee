use Rattle.std.proofs.Common.{length}
use Rattle.state_check.proofs.hosts.+fit_vlans.Given as goal

abbrev pub decreases-fit_vlans : goal.decreases-fit_vlans
decreases-fit_vlans l = length l.vlans.now
