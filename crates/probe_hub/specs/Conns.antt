-- The open connections, and what is looked up and changed in them.
use Rattle.std.specs.Prelude.{ℕ, ◌==◌, not, nat_lt, Bool, if◌then◌else◌, List, [], ◌∷◌, length, filter, Option, Some, None}
use Rattle.std.specs.List.{find, list_any}
use Rattle.probe_hub.specs.declared.conn.Conn.{Conn}
use Rattle.probe_hub.specs.declared.links.Links.{Links}
use Rattle.probe_hub.specs.declared.notices.Notice.{Notice}
use Rattle.probe_hub.specs.Conn.{came, given_of, is_due, new_conn}
use Rattle.probe_hub.specs.Peer.{asked}

abbrev pub has_number : ℕ → Conn → Bool
has_number number c = c.number == number

abbrev pub conn_with : List Conn → ℕ → Option Conn
conn_with conns number = find (has_number number) conns

abbrev pub is_open : List Conn → ℕ → Bool
is_open conns number = list_any (has_number number) conns

-- by number, before the first one with a greater number
abbrev pub is_above : ℕ → Conn → Bool
is_above number c = nat_lt number c.number

abbrev pub put : Conn → List Conn → List Conn
put c [] = c ∷ []
put c (d ∷ ds) = if is_above c.number d then c ∷ d ∷ ds else d ∷ put c ds

abbrev pub without : ℕ → List Conn → List Conn
without number conns = filter (λ c. not (has_number number c)) conns

-- the first one of which this holds is changed
abbrev pub change : (Conn → Bool) → (Conn → Conn) → List Conn → List Conn
change is f [] = []
change is f (c ∷ cs) = if is c then f c ∷ cs else c ∷ change is f cs

-- one opens
abbrev pub opened : ℕ → List Conn → List Conn
opened number conns = if is_open conns number then conns else put (new_conn number) conns

-- the ports' descriptions were asked for on one
abbrev pub noted : (number xid : ℕ) → List Conn → List Conn
noted number xid conns = change (has_number number) (λ c. record c { peer = asked xid c.peer }) conns

-- how many of the bytes that came are given now
abbrev pub given_on : Links → (moment : ℕ) → (piece : List ℕ) → Option Conn → ℕ
given_on links moment piece None = length piece
given_on links moment piece (Some c) = (came links moment piece c).1

-- bytes came on one
abbrev pub came_on : Links → (moment number : ℕ) → (piece : List ℕ) → List Conn → List Conn × ℕ
came_on links moment number piece conns = (change (has_number number) (λ c. (came links moment piece c).0) conns, given_on links moment piece (conn_with conns number))

-- what is told next, and on which one
abbrev pub told_on : Option Conn → Option (ℕ × Notice)
told_on None = None
told_on (Some c) = (given_of c).1

abbrev pub told_next : List Conn → List Conn × Option (ℕ × Notice)
told_next conns = (change is_due (λ c. (given_of c).0) conns, told_on (find is_due conns))
