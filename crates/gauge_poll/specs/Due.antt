-- Polls that are due at a Moment.
use Rattle.std.specs.Prelude.{ℕ, Option}
use Rattle.std.specs.Option.{option_map}
use Rattle.net_base.specs.declared.numbers.Moment.{Moment}
use Rattle.ctl_life.specs.Silence.{show}
use Rattle.gauge_poll.specs.Monitoring.{Monitor, anew, looked, with_world}
use Rattle.gauge_poll.specs.Polls.{Said, newest}

-- what is known in the turn of a Moment, once the connections were looked after
abbrev pub looked_at : (moment : ℕ) → Monitor → Said
looked_at moment k = looked (with_world (show moment) (anew k)).said

-- when the watcher at this place was last polled for on a connection
abbrev pub last_polled : (conn place : ℕ) → Said → Option Moment
last_polled conn place s = option_map (λ p. p.moment) (newest conn place s.polls)
