use Rattle.std.proofs.Common.{length}
use Rattle.net_base.proofs.well_formed.+all_met.Given as goal

abbrev pub decreases-all_met : goal.decreases-all_met
decreases-all_met l = length l.some.now
