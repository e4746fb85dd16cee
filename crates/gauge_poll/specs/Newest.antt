-- The polls that are kept: for each connection and watcher the newest one alone; and what is kept of its reply.
use Rattle.std.specs.Prelude.{ℕ, Option, option_and_then, unwrap_or}
use Rattle.std.specs.BTreeMap.{get}
use Rattle.std.specs.Ordering.{nat_cmp}
use Rattle.gauge_poll.specs.declared.newest.Newest.{Newest}
use Rattle.gauge_poll.specs.declared.parts.Parts.{Parts}
use Rattle.gauge_poll.specs.declared.poll.Poll.{Poll}
use Rattle.gauge_poll.specs.Polls.{Waits, no_part}

-- the poll on a connection, for the watcher at this place in the order of names
abbrev pub at : Newest → (conn place : ℕ) → Option Poll
at kept conn place = option_and_then (λ polls. get nat_cmp polls place) (get nat_cmp kept.conns conn)

-- what waits of its reply
abbrev pub waits_of : Parts → Waits
waits_of kept conn place = unwrap_or (option_and_then (λ waits. get nat_cmp waits place) (get nat_cmp kept.conns conn)) no_part
