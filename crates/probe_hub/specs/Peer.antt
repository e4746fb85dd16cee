-- What is known of the switch on a connection, and what it tells and hears of its links.
use Rattle.std.specs.Prelude.{ℕ, ◌==◌, ◌&&◌, ◌||◌, not, nat_le, Bool, true, false, if◌then◌else◌, List, [], ◌∷◌, ◌++◌, Option, Some, None}
use Rattle.net_base.specs.declared.numbers.DpId.{DpId}
use Rattle.lldp_probe.specs.declared.frame.Probe.{Probe}
use Rattle.lldp_probe.specs.Probes.{probe_of}
use Rattle.of_match.specs.InPort.{in_port}
use Rattle.of13_codec.specs.declared.message.Message.{Message}
use Rattle.of13_codec.specs.declared.message.Message.TheVariants as messages
use Rattle.of13_codec.specs.declared.packet_in.PacketIn.{PacketIn}
use Rattle.of13_codec.specs.declared.ports.PortDesc.{PortDesc}
use Rattle.switch_session.specs.declared.ports.PortTold.{PortTold}
use Rattle.switch_session.specs.declared.state.Stage.{Stage}
use Rattle.switch_session.specs.declared.state.Stage.TheVariants.{Ports, Shut}
use Rattle.switch_session.specs.declared.state.Step.{Step}
use Rattle.switch_session.specs.declared.state.Step.TheVariants as steps
use Rattle.switch_session.specs.Connections.{opened}
use Rattle.switch_session.specs.Stages.{awaits, leads}
use Rattle.switch_session.specs.Told.{knows, told_of}
use Rattle.probe_hub.specs.declared.links.LinkEnd.{LinkEnd}
use Rattle.probe_hub.specs.declared.links.LinkWatch.{LinkWatch}
use Rattle.probe_hub.specs.declared.links.Links.{Links}
use Rattle.probe_hub.specs.declared.marks.Mark.{Mark}
use Rattle.probe_hub.specs.declared.peer.Peer.{Peer}
use Rattle.probe_hub.specs.Links.{end_at, has_dp, is_watched}
use Rattle.probe_hub.specs.Marks.{is_lost, is_over, mark_of, replaced, told}
use Rattle.probe_hub.specs.Notices.{without_port}

-- a connection opened
abbrev pub no_peer : Peer
no_peer = record { session = opened (record { 0 = 0 }); dp = None; marks = []; waiting = [] }

-- ---- the setup of a connection (OpenFlow 1.3, 6.3), as far as it matters

abbrev pub is_shut : Stage → Bool
is_shut Shut = true
is_shut stage = false

abbrev pub is_at_ports : Stage → Bool
is_at_ports Ports = true
is_at_ports stage = false

-- the connection is of this datapath
abbrev pub is_of : DpId → Option DpId → Bool
is_of dp None = false
is_of dp (Some id) = id.0 == dp.0

-- the configuration has the datapath, the switch has 9 flow tables or more, and the connection is no auxiliary one
abbrev pub fits : Links → DpId → (n_tables auxiliary : ℕ) → Bool
fits links dp n_tables auxiliary = has_dp links.dps dp && (nat_le 9 n_tables && (auxiliary == 0))

-- the switch said what it is
abbrev pub introduced : Links → Step → Peer → Peer
introduced links (steps.Features dp n_tables auxiliary) p = if fits links dp n_tables auxiliary then record p { dp = Some dp } else p
introduced links step p = p

-- the ports' descriptions were asked for
abbrev pub asked : (xid : ℕ) → Peer → Peer
asked xid p = record p { session = record p.session { state = record p.session.state { awaited = Some xid } } }

abbrev pub awaits_ports : (xid : ℕ) → Peer → Bool
awaits_ports xid p = awaits p.session.state xid && is_at_ports p.session.state.stage

-- ---- what is told of ports

-- A port is told: it is up from this moment on and isn't lost, or it isn't up. What waited to be told of it isn't any more. One
-- more than the session keeps doesn't count.
abbrev pub retold : (moment : ℕ) → PortTold → Peer → Peer
retold moment port p = record p {
  marks = told moment port.no (port.up && knows p.session.state.ports port.no) p.marks;
  waiting = without_port port.no p.waiting;
}

-- by a PORT_STATUS (7.4.3): with reason 1, DELETE, it is gone
abbrev pub port_changed : (moment reason : ℕ) → Option PortTold → Peer → Peer
port_changed moment reason None p = p
port_changed moment reason (Some port) p = retold moment (record { no = port.no; up = port.up && not (reason == 1) }) p

-- by descriptions (7.3.5.7), one after the other
abbrev pub described : (moment : ℕ) → List PortDesc → Peer → Peer
described moment [] p = p
described moment (port ∷ ports) p = described moment ports (port_changed moment 0 (told_of port) p)

-- a PORT_STATUS tells in every stage, descriptions where they were awaited
abbrev pub told_by : (moment : ℕ) → Message → (awaited : Bool) → Peer → Peer
told_by moment (messages.PortStatus reason port) awaited p = port_changed moment reason (told_of port) p
told_by moment (messages.PortDescReply more ports) true p = described moment ports p
told_by moment m awaited p = p

abbrev pub heard_setup : Links → (moment : ℕ) → Message → (xid : ℕ) → Peer → Peer
heard_setup links moment m xid p =
    told_by moment m (awaits_ports xid p)
    (introduced links (leads p.session.state m xid).1 (record p { session = record p.session { state = (leads p.session.state m xid).0 } }))

-- ---- probes that come in

abbrev pub is_same : Probe → Probe → Bool
is_same a b = (a.dp.0 == b.dp.0) && (a.port == b.port)

-- the port of an end whose other end sent the probe
abbrev pub port_for : (port : ℕ) → Probe → Option LinkEnd → Option ℕ
port_for port probe None = None
port_for port probe (Some end) = if is_same end.far probe then Some port else None

abbrev pub port_by : Links → DpId → Option ℕ → Option Probe → Option ℕ
port_by links dp None probe = None
port_by links dp (Some port) None = None
port_by links dp (Some port) (Some probe) = port_for port probe (end_at links.ends dp port)

-- the port on which a packet brought the probe of the other end of its link
abbrev pub probed_port : Links → Option DpId → PacketIn → Option ℕ
probed_port links None packet = None
probed_port links (Some dp) packet = port_by links dp (in_port packet.fields) (probe_of packet.payload)

-- nothing speaks against the port from this moment on; where it was lost, it is to be told up again
abbrev pub probed : (moment : ℕ) → Option ℕ → Peer → Peer
probed moment None p = p
probed moment (Some port) p = record p {
  marks = replaced (record { no = port; since = moment; lost = false }) p.marks;
  waiting = p.waiting ++ (if is_lost p.marks port then record { port = port; up = true } ∷ [] else []);
}

abbrev pub hear_packet : Links → (moment : ℕ) → PacketIn → Peer → Peer
hear_packet links moment packet p = probed moment (probed_port links p.dp packet) p

-- ---- one message

abbrev pub heard_open : Links → (moment : ℕ) → Message → (xid : ℕ) → Peer → Peer
heard_open links moment (messages.PacketIn packet) xid p = hear_packet links moment packet p
heard_open links moment m xid p = heard_setup links moment m xid p

-- behind a message that ends the connection none counts
abbrev pub heard : Links → (moment : ℕ) → Message → (xid : ℕ) → Peer → Peer
heard links moment m xid p = if is_shut p.session.state.stage then p else heard_open links moment m xid p

-- ---- ports that get lost

abbrev pub mark_over : (window moment : ℕ) → Option Mark → Option Mark
mark_over window moment None = None
mark_over window moment (Some m) = if not m.lost && is_over m.since window moment then Some m else None

abbrev pub mark_watched : (moment : ℕ) → Option LinkWatch → (of : Bool) → Option Mark → Option Mark
mark_watched moment None of m = None
mark_watched moment (Some watch) false m = None
mark_watched moment (Some watch) true m = mark_over watch.window moment m

-- the mark of a port that gets lost: its link is watched, its switch last told it up, and the window is over
abbrev pub losing : (moment : ℕ) → LinkEnd → Peer → Option Mark
losing moment end p = mark_watched moment end.watch (is_of end.dp p.dp) (mark_of p.marks end.port)

-- a port is lost from now on, or isn't any more, and is to be told so
abbrev pub turned : (port : ℕ) → (lost : Bool) → Option Mark → Peer → Peer
turned port lost None p = p
turned port lost (Some m) p = record p {
  marks = replaced (record { no = m.no; since = m.since; lost = lost }) p.marks;
  waiting = p.waiting ++ record { port = port; up = not lost } ∷ [];
}

abbrev pub lost_at : (moment : ℕ) → LinkEnd → Peer → Peer
lost_at moment end p = turned end.port true (losing moment end p) p

abbrev pub lost_all : (moment : ℕ) → List LinkEnd → Peer → Peer
lost_all moment [] p = p
lost_all moment (end ∷ ends) p = lost_all moment ends (lost_at moment end p)

-- ---- ports that aren't watched any more

abbrev pub mark_lost : Option Mark → Option Mark
mark_lost None = None
mark_lost (Some m) = if m.lost then Some m else None

-- the mark of a port that is lost, and from which other links aren't watched
abbrev pub freed : (next : List LinkEnd) → LinkEnd → Peer → Option Mark
freed next end p = if not (is_of end.dp p.dp) || is_watched next end.dp end.port then None else mark_lost (mark_of p.marks end.port)

abbrev pub released : (next : List LinkEnd) → LinkEnd → Peer → Peer
released next end p = turned end.port false (freed next end p) p

abbrev pub released_all : (next : List LinkEnd) → List LinkEnd → Peer → Peer
released_all next [] p = p
released_all next (end ∷ ends) p = released_all next ends (released next end p)
