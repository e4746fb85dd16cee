-- What a hub knows whose links are probed, and how it takes in what happens.
use Rattle.std.specs.Prelude.{ℕ, ◌==◌, nat_lt, max, Bool, false, if◌then◌else◌, List, [], length, map, take, drop, Option, Some, None}
use Rattle.fg_outside.specs.declared.hub.Happening.{Happening}
use Rattle.fg_outside.specs.declared.hub.Happening.TheVariants as happenings
use Rattle.probe_hub.specs.declared.known.Known.{Known}
use Rattle.probe_hub.specs.declared.known.Rest.{Rest}
use Rattle.probe_hub.specs.declared.links.Links.{Links}
use Rattle.probe_hub.specs.declared.notices.Notice.{Notice}
use Rattle.probe_hub.specs.declared.probing.ProbeSaid.{ProbeSaid}
use Rattle.probe_hub.specs.Conn.{losing_all, releasing_all, taken_in}
use Rattle.probe_hub.specs.Conns.{came_on, noted, opened, told_next, without}
use Rattle.probe_hub.specs.Frames.{asked_id}
use Rattle.probe_hub.specs.Notices.{piece_of}
use Rattle.probe_hub.specs.Probing.{probed_all}

-- nothing, with no link
abbrev pub begun : Known
begun = record {
  links = record { dps = []; ends = [] };
  moment = 0;
  conns = [];
  probing = record { last = []; said = [] };
  rest = None;
}

-- what came whole on connections is heard
abbrev pub taken : Known → Known
taken k = record k { conns = map (taken_in k.links k.moment) k.conns }

-- ---- bytes that come

-- so many of them are given now, and the rest has to wait
abbrev pub cut : (number : ℕ) → (piece : List ℕ) → (given : ℕ) → Known → Known × List ℕ
cut number piece given k =
    if nat_lt given (length piece)
    then (record k { rest = Some (record { conn = number; bytes = drop given piece }) }, take given piece)
    else (k, piece)

abbrev pub after_heard : (number : ℕ) → (piece : List ℕ) → Known → Known × List ℕ
after_heard number piece k =
    let come = came_on k.links k.moment number piece k.conns in
    cut number piece come.1 (record k { conns = come.0 })

-- what is given of them
abbrev pub heard_first : (number : ℕ) → Known × List ℕ → Known × Option Happening
heard_first number (k, first) = (k, Some (happenings.Heard number first))

-- ---- what is told before anything else happens

abbrev pub rest_told : Option Rest → Known → Known × Option Happening
rest_told None k = (k, None)
rest_told (Some rest) k = heard_first rest.conn (after_heard rest.conn rest.bytes (record k { rest = None }))

abbrev pub due_told : Option (ℕ × Notice) → Known → Known × Option Happening
due_told None k = rest_told k.rest k
due_told (Some due) k = (k, Some (happenings.Heard due.0 (piece_of due.1)))

-- what is due on a connection, or else what follows a cut
abbrev pub next_told : Known → Known × Option Happening
next_told k = let told = told_next k.conns in due_told told.1 (record k { conns = told.0 })

-- ---- what is said, and what ends

abbrev pub is_its : (number : ℕ) → Option Rest → Bool
is_its number None = false
is_its number (Some rest) = rest.conn == number

-- a connection is gone
abbrev pub gone : (number : ℕ) → Known → Known
gone number k = record k { conns = without number k.conns; rest = if is_its number k.rest then None else k.rest }

abbrev pub noted_by : (number : ℕ) → Option ℕ → Known → Known
noted_by number None k = k
noted_by number (Some xid) k = record k { conns = noted number xid k.conns }

-- a message was said on a connection
abbrev pub noted_in : (number : ℕ) → (message : List ℕ) → Known → Known
noted_in number message k = noted_by number (asked_id message) k

-- ---- what happens at the hub

abbrev pub opened_in : (number : ℕ) → Known → Known
opened_in number k = record k { conns = opened number k.conns }

-- probes are said, and ports get lost
abbrev pub shown_at : (moment : ℕ) → Known → Known
shown_at moment k = record k {
  moment = moment;
  probing = probed_all k.conns moment k.links.ends k.probing;
  conns = map (losing_all moment k.links.ends) k.conns;
}

-- the clock shows a moment; one below the last counts as that
abbrev pub shown : (moment : ℕ) → Known → Known
shown moment k = shown_at (max k.moment moment) k

-- the links are these from now on, and what they don't watch isn't lost any more
abbrev pub renewed : Links → Known → Known
renewed next k = record k { links = next; conns = map (releasing_all next.ends k.links.ends) k.conns }

-- a configuration that isn't accepted changes nothing
abbrev pub reloaded : Option Links → Known → Known
reloaded None k = k
reloaded (Some next) k = renewed next k

abbrev pub heard_given : (number : ℕ) → Known × List ℕ → Known × Happening
heard_given number come = (come.0, happenings.Heard number come.1)

-- what is known behind it, and what is given of it
abbrev pub happened : (read : List ℕ → Option Links) → Happening → Known → Known × Happening
happened read (happenings.Opened number) k = (opened_in number k, happenings.Opened number)
happened read (happenings.Heard number piece) k = heard_given number (after_heard number piece k)
happened read (happenings.Closed number cause) k = (gone number k, happenings.Closed number cause)
happened read (happenings.Moment moment) k = (shown moment k, happenings.Moment moment)
happened read (happenings.Reload text) k = (reloaded (read text) k, happenings.Reload text)

-- the probes that are said with it alone are kept
abbrev pub after : (read : List ℕ → Option Links) → Happening → Known → Known × Happening
after read it k = happened read it (record k { probing = record k.probing { said = [] } })

-- the probes that were said with what happened last
abbrev pub probes : Known → List ProbeSaid
probes k = k.probing.said
