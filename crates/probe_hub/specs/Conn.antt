-- An open connection: the bytes that no frame has taken yet, and what is known of its switch.
use Rattle.std.specs.Prelude.{ℕ, zero, suc, ◌-◌, ◌==◌, ◌&&◌, nat_lt, Bool, true, false, if◌then◌else◌, List, [], ◌++◌, length, take, drop, Option, Some, None}
use Rattle.std.specs.Option.{option_map_or}
use Rattle.net_base.specs.declared.numbers.DpId.{DpId}
use Rattle.of13_codec.specs.declared.message.Message.{Message}
use Rattle.probe_hub.specs.declared.conn.Conn.{Conn}
use Rattle.probe_hub.specs.declared.links.LinkEnd.{LinkEnd}
use Rattle.probe_hub.specs.declared.links.Links.{Links}
use Rattle.probe_hub.specs.declared.notices.Notice.{Notice}
use Rattle.probe_hub.specs.declared.peer.Peer.{Peer}
use Rattle.probe_hub.specs.Frames.{frame_len, is_read, says}
use Rattle.probe_hub.specs.Links.{has_end_of}
use Rattle.probe_hub.specs.Notices.{first_of, rest_of}
use Rattle.probe_hub.specs.Peer.{heard, lost_all, no_peer, released_all}

abbrev pub new_conn : (number : ℕ) → Conn
new_conn number = record { number = number; unread = []; peer = no_peer }

-- ---- frames

-- packets matter where a link ends at the datapath
abbrev pub matters_at : List LinkEnd → Option DpId → Bool
matters_at ends None = false
matters_at ends (Some dp) = has_end_of ends dp

abbrev pub reads_packets : Links → Peer → Bool
reads_packets links p = matters_at links.ends p.dp

-- the message of a frame is heard, if it spells one
abbrev pub heard_said : Links → (moment : ℕ) → Option (Message × ℕ) → Peer → Peer
heard_said links moment None p = p
heard_said links moment (Some said) p = heard links moment said.0 said.1 p

-- a frame is heard where it is one of those that are looked into
abbrev pub heard_frame : Links → (moment : ℕ) → (frame : List ℕ) → Peer → Peer
heard_frame links moment frame p = if is_read (reads_packets links p) frame then heard_said links moment (says frame) p else p

-- the frames at the front of the bytes, so many at most
abbrev pub heard_frames : (most : ℕ) → Links → (moment : ℕ) → (bytes : List ℕ) → Peer → Peer
heard_frames zero links moment bytes p = p
heard_frames (suc most) links moment bytes p =
    option_map_or (λ len. heard_frames most links moment (drop len bytes) (heard_frame links moment (take len bytes) p)) (frame_len bytes) p

-- what is behind them
abbrev pub left_of : (most : ℕ) → (bytes : List ℕ) → List ℕ
left_of zero bytes = bytes
left_of (suc most) bytes = option_map_or (λ len. left_of most (drop len bytes)) (frame_len bytes) bytes

-- what came whole is heard; there are no more frames than bytes
abbrev pub taken_in : Links → (moment : ℕ) → Conn → Conn
taken_in links moment c = record c {
  unread = left_of (length c.unread) c.unread;
  peer = heard_frames (length c.unread) links moment c.unread c.peer;
}

-- ---- bytes that come

-- something is to be told on the connection
abbrev pub has_waiting : Peer → Bool
has_waiting p = nat_lt 0 (length p.waiting)

-- it is, and no frame is begun
abbrev pub is_due : Conn → Bool
is_due c = (length c.unread == 0) && has_waiting c.peer

-- the frame that was begun is heard; where something is to be told then, what is behind it has to wait
abbrev pub frame_ended : Links → (moment len : ℕ) → Conn → Conn × Bool
frame_ended links moment len c =
    let p = heard_frame links moment (take len c.unread) c.peer in
    (record c { unread = if has_waiting p then [] else drop len c.unread; peer = p }, has_waiting p)

-- how many of the bytes that came are given now: those up to the end of the frame that was begun, where the others wait
abbrev pub given_by : (begun len all : ℕ) → Conn × Bool → Conn × ℕ
given_by begun len all (c, true) = (c, len - begun)
given_by begun len all (c, false) = (c, all)

abbrev pub ended_by : Links → (moment begun all : ℕ) → Option ℕ → Conn → Conn × ℕ
ended_by links moment begun all None c = (c, all)
ended_by links moment begun all (Some len) c = given_by begun len all (frame_ended links moment len c)

-- Bytes came, and so many of them are given: all, but where something is to be told at the end of the frame that is begun, which
-- lies in them.
abbrev pub came : Links → (moment : ℕ) → (piece : List ℕ) → Conn → Conn × ℕ
came links moment piece c =
    let d = record c { unread = c.unread ++ piece } in
    if has_waiting c.peer then ended_by links moment (length c.unread) (length piece) (frame_len d.unread) d else (d, length piece)

-- ---- what is told

abbrev pub with_number : ℕ → Option Notice → Option (ℕ × Notice)
with_number number None = None
with_number number (Some n) = Some (number, n)

abbrev pub given_of : Conn → Conn × Option (ℕ × Notice)
given_of c = (record c { peer = record c.peer { waiting = rest_of c.peer.waiting } }, with_number c.number (first_of c.peer.waiting))

-- ports get lost
abbrev pub losing_all : (moment : ℕ) → List LinkEnd → Conn → Conn
losing_all moment ends c = record c { peer = lost_all moment ends c.peer }

-- ports that the next links don't watch aren't lost any more
abbrev pub releasing_all : (next ends : List LinkEnd) → Conn → Conn
releasing_all next ends c = record c { peer = released_all next ends c.peer }
