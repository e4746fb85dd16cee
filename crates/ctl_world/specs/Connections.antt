-- The open connections, and what is looked up and changed in them.
use Rattle.std.specs.Prelude.{ℕ, suc, ◌==◌, not, nat_lt, Bool, false, if◌then◌else◌, List, [], ◌∷◌, filter, Option, Some}
use Rattle.std.specs.List.{find, list_any}
use Rattle.std.specs.Option.{option_map_or}
use Rattle.net_base.specs.declared.numbers.DpId.{DpId}
use Rattle.net_base.specs.declared.numbers.Moment.{Moment}
use Rattle.of_match.specs.declared.entry.Entry.{Entry}
use Rattle.of13_codec.specs.declared.message.Message.{Message}
use Rattle.switch_session.specs.Connections.{fed, next_id, due_at, asks_echo}
use Rattle.switch_session.specs.Stages.{leads}
use Rattle.ctl_world.specs.declared.conns.Conn.{Conn}

-- ---- which connection

abbrev pub has_number : ℕ → Conn → Bool
has_number number c = c.number == number

abbrev pub conn_with : List Conn → ℕ → Option Conn
conn_with conns number = find (has_number number) conns

abbrev pub is_open : List Conn → ℕ → Bool
is_open conns number = list_any (has_number number) conns

-- the switch on it is this datapath
abbrev pub is_of : DpId → Conn → Bool
is_of dp c = option_map_or (λ d. d.0 == dp.0) c.dp false

abbrev pub conn_of : List Conn → DpId → Option Conn
conn_of conns dp = find (is_of dp) conns

-- ---- all of them

-- by number
abbrev pub put : Conn → List Conn → List Conn
put c [] = c ∷ []
put c (d ∷ ds) = if nat_lt c.number d.number then c ∷ d ∷ ds else d ∷ put c ds

-- the place before the first one with a greater number
abbrev pub upper_bound : ℕ → List Conn → ℕ
upper_bound number [] = 0
upper_bound number (d ∷ ds) = if nat_lt number d.number then 0 else suc (upper_bound number ds)

abbrev pub without : ℕ → List Conn → List Conn
without number conns = filter (λ c. not (has_number number c)) conns

-- the connection with a number is changed
abbrev pub change : ℕ → (Conn → Conn) → List Conn → List Conn
change number f [] = []
change number f (c ∷ cs) = if has_number number c then f c ∷ cs else c ∷ change number f cs

-- ---- how one is changed

-- a message is said on it
abbrev pub with_said : Conn → Conn
with_said c = record c { session = record c.session { last_xid = next_id c.session.last_xid } }

-- a message is said whose reply is awaited
abbrev pub with_asked : Conn → Conn
with_asked c = record c { session = record c.session { last_xid = next_id c.session.last_xid; state = record c.session.state { awaited = Some (next_id c.session.last_xid) } } }

-- bytes came
abbrev pub with_fed : List ℕ → Moment → Conn → Conn
with_fed piece now c = record c { session = fed c.session piece now }

-- so many bytes are still to be read
abbrev pub with_unread : List ℕ → Conn → Conn
with_unread unread c = record c { session = record c.session { unread = unread } }

-- a message was heard
abbrev pub with_heard : Message → ℕ → Conn → Conn
with_heard m xid c = record c { session = record c.session { state = (leads c.session.state m xid).0 } }

-- it was looked at, at a moment, for silence
abbrev pub with_looked : Moment → Conn → Conn
with_looked now c = record c { session = record c.session { echoed = asks_echo (due_at c.session now) c.session.echoed } }

-- its switch is a datapath
abbrev pub with_dp : DpId → Conn → Conn
with_dp dp c = record c { dp = Some dp }

-- its switch holds these entries once it has done all that was said
abbrev pub with_sent : List Entry → Conn → Conn
with_sent entries c = record c { sent = entries }
