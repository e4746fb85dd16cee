use Rattle.std.proofs.Common.{length}
use Rattle.state_check.proofs.hosts.+are_hosts.Given as goal

abbrev pub decreases-are_hosts : goal.decreases-are_hosts
decreases-are_hosts l = length l.hosts.now
