use Rattle.std.proofs.Common.{length}
use Rattle.net_base.proofs.well_formed.+is_before.Given as goal

abbrev pub decreases-is_before : goal.decreases-is_before
decreases-is_before l = length l.others.now
