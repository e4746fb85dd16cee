use Rattle.std.proofs.Common.{length}
use Rattle.state_check.proofs.hosts.+stay_alone.Given as goal

abbrev pub decreases-stay_alone : goal.decreases-stay_alone
decreases-stay_alone l = length l.hosts.now
