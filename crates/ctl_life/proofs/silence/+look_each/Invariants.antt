use Rattle.std.proofs.Common.{length}
use Rattle.ctl_life.proofs.silence.+look_each.Given as goal

abbrev pub decreases-look_each : goal.decreases-look_each
decreases-look_each l = length l.conns.now
