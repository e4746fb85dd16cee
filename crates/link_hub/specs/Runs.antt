-- What whole runs of a hub come to.
use Rattle.std.specs.Prelude.{◌≡◌, ◌==◌, ◌⊎◌, ℕ, ◌+◌, ◌-◌, ◌^◌, ◌<◌, ◌≤◌, min, true, false, if◌then◌else◌, List, [], ◌∷◌, ◌++◌, Some, None}
use Rattle.std.specs.List.{flat_map, sum_by}
use Rattle.fg_outside.specs.Counts.{Rose}
use Rattle.fg_outside.specs.Left.{prepended}
use Rattle.fg_outside.specs.Wrote.{appended}
use Rattle.fg_outside.specs.HubStep.{HubStep, Event, happening, saying, closing, Leads}
use Rattle.fg_outside.specs.declared.hub.Happening.TheVariants as happenings
use Rattle.fg_outside.specs.declared.hub.Said.TheVariants as answers
use Rattle.fg_outside.specs.declared.hub.Turn.{Turn}
use Rattle.fg_links.specs.declared.next.Next.TheVariants as nexts
use Rattle.fg_links.specs.declared.link.Link as link
use Rattle.fg_links.specs.declared.poller.Poller as poller
use Rattle.fg_links.specs.declared.told.Told.{Told}
use Rattle.fg_links.specs.declared.told.Told.TheVariants.{Quiet, Gone}
use Rattle.fg_links.specs.Calls.{Appends}
use Rattle.link_hub.specs.declared.hub.LinkHub.{LinkHub}
use Rattle.link_hub.specs.Hub.{poller_of, is_live, live_at, most_empty, Passes, start, next, Turns, spent, told, asked, empty}
use Rattle.link_hub.specs.declared.live.Live.{Live}

-- the bytes that an event tells of what was heard on a connection
abbrev pub heard_by : ℕ → Event → List ℕ
heard_by conn (happening (happenings.Heard c piece)) = if c == conn then piece else []
heard_by conn (happening (happenings.Opened c)) = []
heard_by conn (happening (happenings.Closed c cause)) = []
heard_by conn (happening (happenings.Moment moment)) = []
heard_by conn (happening (happenings.Reload text)) = []
heard_by conn (saying c piece answer) = []
heard_by conn (closing c) = []

-- the bytes that an event tells of what was said on a connection, and taken
abbrev pub said_by : ℕ → Event → List ℕ
said_by conn (happening it) = []
said_by conn (saying c piece answers.Taken) = if c == conn then piece else []
said_by conn (saying c piece answers.Gone) = []
said_by conn (saying c piece answers.Memory) = []
said_by conn (closing c) = []

-- all that was heard on a connection, and all that was said there
abbrev pub heard_on : ℕ → List Event → List ℕ
heard_on conn events = flat_map (heard_by conn) events

abbrev pub said_on : ℕ → List Event → List ℕ
said_on conn events = flat_map (said_by conn) events

-- What a connection's link has given since it opened is what was heard, in order. What it was given and what waits are
-- together what was said, in order and without a gap.
pub record IsServedInOrder {L : Type 0} (it : link.Ghosts L) (conn : ℕ) (events : List Event) (live : Live L) : Type 0 where
  pub heard : it.left live.opened.value ≡ prepended (heard_on conn events) (it.left live.link)
  pub said : appended (it.wrote live.opened.value) (said_on conn events) ≡ appended (it.wrote live.link) live.unsent
  pub faults : it.faults live.opened.value ≤ it.faults live.link

-- how often a poller was told by this that a connection's link is no longer used
abbrev pub gone_by : ℕ → Told → ℕ
gone_by conn (Gone gone) = if gone == conn then 1 else 0
gone_by conn (Quiet quiet) = 0

abbrev pub gone_count : ℕ → List Told → ℕ
gone_count conn calls = sum_by (gone_by conn) calls

-- how many links the poller gave the hub
abbrev pub given_to : {P L : Type 0} → LinkHub P L → ℕ
given_to hub = hub.given

-- The poller was told once of each link that it gave and that isn't open that it is no longer used, be it that the link
-- ended, was closed or was let go; and of no other.
pub record TellsGone {P L : Type 0} (p : poller.Ghosts P L) (from to : LinkHub P L) : Type 0 where
  pub calls : List Told
  pub told : Appends (p.told (poller_of from)) calls (p.told (poller_of to))
  pub not_open : (conn : ℕ) → is_live to conn ≡ true → gone_count conn calls ≡ 0
  pub once : (conn : ℕ) → is_live to conn ≡ false → 0 < conn → conn ≤ given_to to → gone_count conn calls ≡ 1
  pub none : (conn : ℕ) → given_to to < conn → gone_count conn calls ≡ 0

-- ---- what is written

-- the poller told a connection's link ready by one of these answers
abbrev pub IsReadyAmong : {P L : Type 0} → (it : link.Ghosts L) → (p : poller.Ghosts P L) → ℕ → (from : LinkHub P L) → (n : ℕ) → (to : LinkHub P L) → Passes it p from n to → Type 0
IsReadyAmong it p conn from _ _ start = ⊥
IsReadyAmong it p conn from _ _ (next n mid to way asks) = IsReadyAmong it p conn from n mid way ⊎ (asks.answer ≡ nexts.Ready conn)

-- it did so in this turn
abbrev pub IsReadyIn : {P L : Type 0} → (it : link.Ghosts L) → (p : poller.Ghosts P L) → ℕ → (old : LinkHub P L) → (turn : Turn) → (new : LinkHub P L) → Turns it p old turn new → Type 0
IsReadyIn it p conn old _ _ (spent is) = ⊥
IsReadyIn it p conn old _ _ (told c cause new running tells) = ⊥
IsReadyIn it p conn old _ _ (asked n mid turn new running idle few way asks) = IsReadyAmong it p conn old n mid way ⊎ (asks.answer ≡ nexts.Ready conn)
IsReadyIn it p conn old _ _ (empty new running idle way) = IsReadyAmong it p conn old most_empty new way

-- a link that was open took no more: its count of writes that answered `NotYet` rose
pub record TookNoMore {P L : Type 0} (it : link.Ghosts L) (conn : ℕ) (old : LinkHub P L) (now : Live L) : Type 0 where
  pub was : Live L
  pub found : live_at old conn ≡ Some was
  pub rose : Rose (it.unwritten was.link) (it.unwritten now.link)

-- nothing waits on a connection's link behind a call, or the link took no more in it, or it isn't open
abbrev pub IsWritten : {P L : Type 0} → link.Ghosts L → ℕ → LinkHub P L → LinkHub P L → Type 0
IsWritten {L = L} it conn old new = (now : Live L) → live_at new conn ≡ Some now → (now.unsent ≡ []) ⊎ TookNoMore it conn old now

-- ---- what the poller is told of reads

-- how often a poller was told by this that no byte has come on a connection's link
abbrev pub quiet_by : ℕ → Told → ℕ
quiet_by conn (Quiet quiet) = if quiet == conn then 1 else 0
quiet_by conn (Gone gone) = 0

abbrev pub quiet_count : ℕ → List Told → ℕ
quiet_count conn calls = sum_by (quiet_by conn) calls

-- a count stood still where nothing was told, and else rose by at least as much as was told, or to its last value
pub record IsCounted (times before now : ℕ) : Type 0 where
  pub still : times ≡ 0 → now ≡ before
  pub rose : min (before + times) (2 ^ 64 - 1) ≤ now

-- Between two states of a hub the poller was told that no byte has come on an open link just where its count of reads that
-- answered `NotYet` rose, and no more often. It was told nothing so of a link that isn't open any more, or that was never given.
pub record TellsQuiet {P L : Type 0} (it : link.Ghosts L) (p : poller.Ghosts P L) (old new : LinkHub P L) : Type 0 where
  pub calls : List Told
  pub told : Appends (p.told (poller_of old)) calls (p.told (poller_of new))
  pub stayed : (conn : ℕ) (was now : Live L) → live_at old conn ≡ Some was → live_at new conn ≡ Some now → IsCounted (quiet_count conn calls) (it.unread was.link) (it.unread now.link)
  pub opened : (conn : ℕ) (now : Live L) → live_at old conn ≡ None → live_at new conn ≡ Some now → IsCounted (quiet_count conn calls) (it.unread now.opened.value) (it.unread now.link)
  pub over : (conn : ℕ) → live_at old conn ≡ None → conn ≤ given_to old → quiet_count conn calls ≡ 0
  pub none : (conn : ℕ) → given_to new < conn → quiet_count conn calls ≡ 0

-- ---- links that fail

-- a call in which an open link ended whose count of faults rose since it opened
pub record IsFault {P L : Type 0} (it : link.Ghosts L) (conn : ℕ) (old new : LinkHub P L) : Type 0 where
  pub was : Live L
  pub last : Live L
  pub found : live_at old conn ≡ Some was
  pub opened : last.opened ≡ was.opened
  pub rose : Rose (it.faults last.opened.value) (it.faults last.link)
  pub gone : live_at new conn ≡ None

-- a run of which one call has this
pub data OneCall {H : Type 0} (may : H → HubStep → H → Type 0) (has : H → H → Type 0) (from : H) : List HubStep → H → Type 0 where
  in_last : (steps : List HubStep) (old : H) (step : HubStep) (new : H) → Leads may from steps old → may old step new → has old new → OneCall may has from (steps ++ step ∷ []) new
  in_earlier : (steps : List HubStep) (old : H) (step : HubStep) (new : H) → OneCall may has from steps old → may old step new → OneCall may has from (steps ++ step ∷ []) new
