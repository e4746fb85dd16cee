use Rattle.std.proofs.Common.{length}
use Rattle.net_base.proofs.ascii6.+longest_zeros.Given as goal

abbrev pub decreases-longest_zeros : goal.decreases-longest_zeros
decreases-longest_zeros l = length l.groups.now
