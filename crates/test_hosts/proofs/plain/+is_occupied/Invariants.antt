use Rattle.std.proofs.Common.{length}
use Rattle.test_hosts.proofs.plain.+is_occupied.Given as goal

abbrev pub decreases-is_occupied : goal.decreases-is_occupied
decreases-is_occupied l = length l.hosts.now
