-- The probes that are said.
use Rattle.std.specs.Prelude.{ℕ, ◌*◌, ◌==◌, ◌&&◌, min, Bool, true, false, if◌then◌else◌, List, [], ◌∷◌, ◌++◌, Option, Some, None}
use Rattle.std.specs.List.{find}
use Rattle.net_base.specs.declared.numbers.DpId.{DpId}
use Rattle.lldp_probe.specs.Probes.{probe_frame}
use Rattle.of_match.specs.declared.action.Action.TheVariants.{Output}
use Rattle.of13_codec.specs.declared.message.Message.TheVariants.{PacketOut}
use Rattle.of13_codec.specs.Messages.{written}
use Rattle.switch_session.specs.declared.state.Stage.{Stage}
use Rattle.switch_session.specs.declared.state.Stage.TheVariants.{Wiping, Running}
use Rattle.probe_hub.specs.declared.conn.Conn.{Conn}
use Rattle.probe_hub.specs.declared.links.LinkEnd.{LinkEnd}
use Rattle.probe_hub.specs.declared.links.LinkWatch.{LinkWatch}
use Rattle.probe_hub.specs.declared.probing.LastProbe.{LastProbe}
use Rattle.probe_hub.specs.declared.probing.Probing.{Probing}
use Rattle.probe_hub.specs.Marks.{is_over}
use Rattle.probe_hub.specs.Peer.{is_of}

-- ---- where and when

abbrev pub has_ports : Stage → Bool
has_ports Wiping = true
has_ports Running = true
has_ports stage = false

-- the connection of a datapath whose ports are known
abbrev pub is_ready : DpId → Conn → Bool
is_ready dp c = is_of dp c.peer.dp && has_ports c.peer.session.state.stage

abbrev pub ready_conn : DpId → List Conn → Option Conn
ready_conn dp conns = find (is_ready dp) conns

-- the last probe of a port
abbrev pub is_last_of : DpId → (port : ℕ) → LastProbe → Bool
is_last_of dp port last = (last.dp.0 == dp.0) && (last.port == port)

abbrev pub last_of : DpId → (port : ℕ) → List LastProbe → Option LastProbe
last_of dp port lasts = find (is_last_of dp port) lasts

-- so many seconds have passed since the last one, or none was said
abbrev pub is_span_over : (interval moment : ℕ) → Option LastProbe → Bool
is_span_over interval moment None = true
is_span_over interval moment (Some last) = is_over last.moment (interval * 1000) moment

abbrev pub due_by : (moment : ℕ) → Option LinkWatch → Option Conn → Option LastProbe → Option (ℕ × ℕ)
due_by moment None c last = None
due_by moment (Some watch) None last = None
due_by moment (Some watch) (Some c) last = if is_span_over watch.interval moment last then Some (c.number, watch.interval) else None

-- the connection on which the port of an end is to be probed now, with the seconds between two probes
abbrev pub due_on : List Conn → (moment : ℕ) → LinkEnd → List LastProbe → Option (ℕ × ℕ)
due_on conns moment end lasts = due_by moment end.watch (ready_conn end.dp conns) (last_of end.dp end.port lasts)

-- ---- what is said

-- three times the interval, as far as 2 bytes hold it
abbrev pub ttl_of : (interval : ℕ) → ℕ
ttl_of interval = min (interval * 3) 65535

-- a PACKET_OUT (OpenFlow 1.3, 7.3.7) of the probe, with the transaction id 0 and the output to the port as its one action
abbrev pub probe_bytes : LinkEnd → (interval : ℕ) → List ℕ
probe_bytes end interval =
    written (PacketOut (record {
      buffer = 0xffffffff;
      in_port = 0xfffffffd;
      actions = Output end.port 0 ∷ [];
      payload = probe_frame end.dp end.port (ttl_of interval);
    })) 0

-- when the last one of a port was said
abbrev pub said_again : (moment : ℕ) → LinkEnd → List LastProbe → List LastProbe
said_again moment end [] = record { dp = end.dp; port = end.port; moment = moment } ∷ []
said_again moment end (last ∷ lasts) =
    if is_last_of end.dp end.port last then record { dp = end.dp; port = end.port; moment = moment } ∷ lasts else last ∷ said_again moment end lasts

abbrev pub probed_at : (moment : ℕ) → LinkEnd → Option (ℕ × ℕ) → Probing → Probing
probed_at moment end None s = s
probed_at moment end (Some due) s = record {
  last = said_again moment end s.last;
  said = s.said ++ record { conn = due.0; bytes = probe_bytes end due.1 } ∷ [];
}

abbrev pub probed_on : List Conn → (moment : ℕ) → LinkEnd → Probing → Probing
probed_on conns moment end s = probed_at moment end (due_on conns moment end s.last) s

-- the ports of ends, in their order
abbrev pub probed_all : List Conn → (moment : ℕ) → List LinkEnd → Probing → Probing
probed_all conns moment [] s = s
probed_all conns moment (end ∷ ends) s = probed_all conns moment ends (probed_on conns moment end s)
