use Rattle.std.proofs.Common.{length}
use Rattle.state_check.proofs.hosts.+stays_alone.Given as goal

abbrev pub decreases-stays_alone : goal.decreases-stays_alone
decreases-stays_alone l = length l.others.now
