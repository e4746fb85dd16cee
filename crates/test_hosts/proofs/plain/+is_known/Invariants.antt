use Rattle.std.proofs.Common.{length}
use Rattle.test_hosts.proofs.plain.+is_known.Given as goal

abbrev pub decreases-is_known : goal.decreases-is_known
decreases-is_known l = length l.hosts.now
