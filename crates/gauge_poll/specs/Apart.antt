-- Polls of one watcher on one connection lie at least its interval apart.
use Rattle.std.specs.Prelude.{◌≡◌, ◌≤◌, ◌+◌, ◌*◌, List, ◌∷◌, ◌++◌, Some, slice_get}
use Rattle.gauge_conf.specs.declared.gauge.Watcher.{Watcher}
use Rattle.gauge_poll.specs.declared.poll.Poll.{Poll}
use Rattle.gauge_poll.specs.Polls.{newest}

-- wherever a poll stands, the newest one before it for its watcher on its connection is as many seconds older as the interval
-- has, or more
pub record AreApart (ws : List Watcher) (polls : List Poll) : Type 0 where
  pub apart : (before after : List Poll) (q p : Poll) (w : Watcher) → polls ≡ before ++ p ∷ after → newest p.conn p.watcher before ≡ Some q
      → slice_get ws p.watcher ≡ Some w → q.moment.0 + 1000 * w.interval ≤ p.moment.0
