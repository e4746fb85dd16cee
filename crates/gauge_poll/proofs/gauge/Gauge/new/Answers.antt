use Rattle.std.proofs.Common.{refl}
use Rattle.gauge_poll.proofs.gauge.Gauge.new.Goals as goal

pub returns : goal.returns
returns c = record {
  unspent = refl;
  watchers = refl;
  said = record { world = c.in_ok-world.ensures; polls = λ conn place there. c.new-newest.ensures conn place; waits = λ conn place there. c.new-parts.ensures conn place };
}
