-- What is said can be said: on connections that are open, with transaction ids that count up.
use Rattle.std.specs.Prelude.{◌≡◌, ℕ, ◌==◌, Bool, true, false, if◌then◌else◌, List, [], ◌∷◌, ◌++◌, Some}
use Rattle.std.specs.List.{fold}
use Rattle.fg_outside.specs.declared.hub.Happening.{Happening}
use Rattle.fg_outside.specs.declared.hub.Happening.TheVariants as happenings
use Rattle.of13_codec.specs.declared.message.Message.{Message}
use Rattle.of13_codec.specs.declared.message.Message.TheVariants as messages
use Rattle.switch_session.specs.Connections.{next_id}
use Rattle.ctl_world.specs.declared.conns.Conn.{Conn}
use Rattle.ctl_world.specs.declared.said.Said.{Said}
use Rattle.ctl_world.specs.declared.said.Said.TheVariants as said
use Rattle.ctl_world.specs.Connections.{conn_with, is_open}
use Rattle.ctl_world.specs.TablesSaid.{is_hello}
use Rattle.ctl_world.specs.World.{World}
use Rattle.ctl_core.specs.Turns.{turn}

-- ---- transaction ids

-- an ERROR and an ECHO_REPLY repeat an id that was heard (OpenFlow 1.3, 7.4.4 and 7.5.3)
abbrev pub is_answer : Message → Bool
is_answer (messages.Error kind code payload) = true
is_answer (messages.EchoReply payload) = true
is_answer other = false

abbrev pub ids_more : (number : ℕ) → List ℕ → Said → List ℕ
ids_more number before (said.Message conn m xid) =
    if conn == number then (if is_answer m then before else if is_hello m then xid ∷ [] else before ++ xid ∷ []) else before
ids_more number before (said.Closing conn cause) = before
ids_more number before (said.Line text) = before

-- those of what was said on a connection since it was last opened, but for such answers
abbrev pub ids_said : (number : ℕ) → List Said → List ℕ
ids_said number said = fold (ids_more number) [] said

-- ids in a row, each the next one of that before it, up to the last, where this one was before them
abbrev pub CountUp : (before : ℕ) → List ℕ → (last : ℕ) → Type 0
CountUp before [] last = last ≡ before
CountUp before (id ∷ ids) last = (id ≡ next_id before) × CountUp id ids last

-- on each open connection ids count from 1 up to the last that is noted
abbrev pub IdsCount : World → List Said → Type 0
IdsCount w said = (number : ℕ) (c : Conn) → conn_with w.conns number ≡ Some c → CountUp 0 (ids_said number said) c.session.last_xid

-- ---- open connections

-- a message is said, and a connection closed, only where it is open; behind its closing it isn't
abbrev pub IsOnOpen : (number : ℕ) → (opened : Bool) → List Said → Type 0
IsOnOpen number opened [] = Unit {0}
IsOnOpen number opened (said.Message conn m xid ∷ more) = (conn ≡ number → opened ≡ true) × IsOnOpen number opened more
IsOnOpen number opened (said.Closing conn cause ∷ more) =
    (conn ≡ number → opened ≡ true) × IsOnOpen number (if conn == number then false else opened) more
IsOnOpen number opened (said.Line text ∷ more) = IsOnOpen number opened more

-- open in a turn: before it, or opened by it
abbrev pub opens_in : Happening → (number : ℕ) → World → Bool
opens_in (happenings.Opened n) number w = if n == number then true else is_open w.conns number
opens_in (happenings.Heard n piece) number w = is_open w.conns number
opens_in (happenings.Closed n cause) number w = if n == number then false else is_open w.conns number
opens_in (happenings.Moment moment) number w = is_open w.conns number
opens_in (happenings.Reload text) number w = is_open w.conns number

-- so in each turn of a story
abbrev pub SaysOnOpen : World → List Happening → Type 0
SaysOnOpen w [] = Unit {0}
SaysOnOpen w (h ∷ hs) = ((number : ℕ) → IsOnOpen number (opens_in h number w) (turn h w).said) × SaysOnOpen (turn h w) hs
