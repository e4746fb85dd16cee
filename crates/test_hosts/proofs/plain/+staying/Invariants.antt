use Rattle.std.proofs.Common.{length}
use Rattle.test_hosts.proofs.plain.+staying.Given as goal

abbrev pub decreases-staying : goal.decreases-staying
decreases-staying l = length l.hosts.now
