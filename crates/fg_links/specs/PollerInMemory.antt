-- What callers see of a poller in memory.
use Rattle.std.specs.Prelude.{ℕ, List, Option, Some, None, if◌then◌else◌}
use Rattle.std.specs.Vec.Iter.{into_iter_items}
use Rattle.fg_links.specs.declared.next.MemNext.{MemNext}
use Rattle.fg_links.specs.declared.told.Told.{Told}
use Rattle.fg_links.specs.declared.mem_poller.PollerInMemory.{PollerInMemory}

-- what it has left to give
abbrev pub ahead_in : {L P : Type 0} → PollerInMemory L P → List (MemNext L)
ahead_in poller = into_iter_items poller.nexts

-- how many links it has given
abbrev pub given_by : {L P : Type 0} → PollerInMemory L P → ℕ
given_by poller = poller.given

-- what it was told, unless there was no room for all of it
abbrev pub told_by : {L P : Type 0} → PollerInMemory L P → Option (List Told)
told_by poller = if poller.overfull then None else Some poller.told.items

-- how much it can be told
abbrev pub room_of : {L P : Type 0} → PollerInMemory L P → ℕ
room_of poller = poller.room

-- which of the calls are to fail
abbrev pub plan_of : {L P : Type 0} → PollerInMemory L P → P
plan_of poller = poller.plan
