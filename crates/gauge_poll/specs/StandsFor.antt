-- What a Gauge keeps of all that was said and told: the newest polls stand for all of them.
use Rattle.std.specs.Prelude.{◌≡◌, ℕ, true, false}
use Rattle.ctl_world.specs.Connections.{is_open}
use Rattle.gauge_poll.specs.declared.gauge.Gauge.{Gauge}
use Rattle.gauge_poll.specs.declared.known.Known.{Known}
use Rattle.gauge_poll.specs.declared.known.Kept.{Kept}
use Rattle.gauge_poll.specs.declared.newest.Newest.{Newest}
use Rattle.gauge_poll.specs.declared.parts.Parts.{Parts}
use Rattle.gauge_poll.specs.declared.report.Report.{Report}
use Rattle.gauge_poll.specs.Monitoring.{Monitor}
use Rattle.gauge_poll.specs.Newest.{at, waits_of}
use Rattle.gauge_poll.specs.Polls.{Said, newest}

-- the same is known of the connections, and of each open one the newest polls and what waits of their replies
pub record Keeps (k : Known) (s : Said) : Type 0 where
  pub world : k.world ≡ s.world
  pub polls : (conn place : ℕ) → is_open s.world.conns conn ≡ true → at k.newest conn place ≡ newest conn place s.polls
  pub waits : (conn place : ℕ) → is_open s.world.conns conn ≡ true → waits_of k.parts conn place ≡ s.waits conn place

abbrev pub with_parts : Known → Parts → Known
with_parts k parts = record k { parts = parts }

-- what is told is of this moment, and of its connection the newest polls are kept, and what waits of their replies
pub record Lends (kept : Newest) (parts : Parts) (r : Report) (s : Said) : Type 0 where
  pub moment : r.moment ≡ s.world.moment
  pub polls : (place : ℕ) → at kept r.conn place ≡ newest r.conn place s.polls
  pub waits : (place : ℕ) → waits_of parts r.conn place ≡ s.waits r.conn place

-- in the midst of a turn, with the lines and blocks that it gave so far
pub record KeepsAll (k : Kept) (m : Monitor) : Type 0 where
  pub watchers : k.watchers ≡ m.watchers
  pub said : Keeps k.known m.said
  pub lines : k.lines ≡ m.lines

-- between two turns
pub record StandsFor (g : Gauge) (m : Monitor) : Type 0 where
  pub unspent : g.is_spent ≡ false
  pub watchers : g.kept.watchers ≡ m.watchers
  pub said : Keeps g.kept.known m.said

abbrev pub IsSpent : Gauge → Type 0
IsSpent g = g.is_spent ≡ true
