use Rattle.std.proofs.Common.{length}
use Rattle.ctl_packets.proofs.hearing.+least_time.Given as goal

abbrev pub decreases-least_time : goal.decreases-least_time
decreases-least_time l = length l.dps.now
