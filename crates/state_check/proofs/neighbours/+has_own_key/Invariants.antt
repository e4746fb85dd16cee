use Rattle.std.proofs.Common.{length}
use Rattle.state_check.proofs.neighbours.+has_own_key.Given as goal

abbrev pub decreases-has_own_key : goal.decreases-has_own_key
decreases-has_own_key l = length l.others.now
