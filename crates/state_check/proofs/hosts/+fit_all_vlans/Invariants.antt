use Rattle.std.proofs.Common.{length}
use Rattle.state_check.proofs.hosts.+fit_all_vlans.Given as goal

abbrev pub decreases-fit_all_vlans : goal.decreases-fit_all_vlans
decreases-fit_all_vlans l = length l.dps.now
