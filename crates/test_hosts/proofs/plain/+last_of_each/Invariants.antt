use Rattle.std.proofs.Common.{length}
use Rattle.test_hosts.proofs.plain.+last_of_each.Given as goal

abbrev pub decreases-last_of_each : goal.decreases-last_of_each
decreases-last_of_each l = length l.hosts.now
