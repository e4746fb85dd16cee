use Rattle.std.proofs.Common.{length}
use Rattle.test_hosts.proofs.plain.+stands_there.Given as goal

abbrev pub decreases-stands_there : goal.decreases-stands_there
decreases-stands_there l = length l.hosts.now
