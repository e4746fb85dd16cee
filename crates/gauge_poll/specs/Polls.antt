-- The polls that were said, when the next one is due, and what came of the reply to the newest one.
use Rattle.std.specs.Prelude.{ℕ, suc, ◌+◌, ◌*◌, ◌==◌, ◌&&◌, not, nat_le, Bool, true, false, if◌then◌else◌, List, [], ◌∷◌, ◌++◌, filter, Option, Some, None}
use Rattle.std.specs.List.{fold, list_any}
use Rattle.std.specs.Option.{option_map_or}
use Rattle.net_base.specs.declared.numbers.DpId.{DpId}
use Rattle.of13_codec.specs.declared.message.Message.{Message}
use Rattle.of13_codec.specs.declared.message.Message.TheVariants.{PortStatsRequest}
use Rattle.flow_stats.specs.Request.{flow_request}
use Rattle.gauge_conf.specs.declared.gauge.Watcher.{Watcher}
use Rattle.gauge_conf.specs.declared.gauge.WatchKind.{WatchKind}
use Rattle.gauge_conf.specs.declared.gauge.WatchKind.TheVariants.{PortState, PortStats, FlowTable}
use Rattle.switch_session.specs.Connections.{next_id}
use Rattle.ctl_world.specs.declared.conns.Conn.{Conn}
use Rattle.ctl_world.specs.Connections.{conn_of, conn_with}
use Rattle.ctl_world.specs.Saying.{say}
use Rattle.ctl_world.specs.World.{World}
use Rattle.gauge_poll.specs.declared.poll.Poll.{Poll}
use Rattle.gauge_poll.specs.declared.parts.Waiting.{Waiting}

-- ---- watchers

abbrev pub watches : Watcher → DpId → Bool
watches w dp = list_any (λ (d : DpId). d.0 == dp.0) w.dps

abbrev pub is_polling : WatchKind → Bool
is_polling PortState = false
is_polling PortStats = true
is_polling FlowTable = true

-- the counters of all ports (OFPP_ANY; OpenFlow 1.3, 7.3.5.6), or those of all flow entries (7.3.5.2)
abbrev pub request_for : WatchKind → Message
request_for FlowTable = flow_request
request_for kind = PortStatsRequest 0xffffffff

-- ---- what was said

-- it was said on this connection, for the watcher at this place in the order of names
abbrev pub is_for : (conn place : ℕ) → Poll → Bool
is_for conn place p = p.conn == conn && p.watcher == place

abbrev pub later : (conn place : ℕ) → Option Poll → Poll → Option Poll
later conn place found p = if is_for conn place p then Some p else found

-- the last one of them
abbrev pub newest : (conn place : ℕ) → List Poll → Option Poll
newest conn place polls = fold (later conn place) None polls

-- those of other connections
abbrev pub of_others : (conn : ℕ) → List Poll → List Poll
of_others conn polls = filter (λ p. not (p.conn == conn)) polls

-- ---- what waits of a reply

-- no part came, or the last one did
abbrev pub no_part : Waiting
no_part = record { ports = []; flows = [] }

-- what waits for a watcher, by its place, on a connection
abbrev pub Waits : Type 0
Waits = (conn place : ℕ) → Waiting

-- this waits at one place from now on
abbrev pub with_at : (conn place : ℕ) → Waiting → Waits → Waits
with_at conn place waiting waits c p = if conn == c && place == p then waiting else waits c p

-- nothing waits on one connection from now on
abbrev pub without_conn : (conn : ℕ) → Waits → Waits
without_conn conn waits c p = if conn == c then no_part else waits c p

-- ---- a poll

-- what was said so far: in the present turn, and of polls since their connections were opened, in order; and what came of the reply to
-- the newest poll for a watcher on a connection, until its last part comes
pub record Said : Type 0 where
  pub world : World
  pub polls : List Poll
  pub waits : Waits

-- as many seconds as the watcher's interval lie between its newest poll on a connection and the present moment, or none was said
abbrev pub is_due : Watcher → (place conn : ℕ) → Said → Bool
is_due w place conn s = option_map_or (λ p. nat_le (p.moment.0 + 1000 * w.interval) s.world.moment.0) (newest conn place s.polls) true

abbrev pub poll_by : WatchKind → (place conn : ℕ) → Said → Conn → Poll
poll_by kind place conn s c = record { conn = conn; watcher = place; kind = kind; moment = s.world.moment; xid = next_id c.session.last_xid }

-- the counters are asked for, with the connection's next transaction id; what came of an earlier reply goes
abbrev pub poll_on : WatchKind → (place conn : ℕ) → Said → Conn → Said
poll_on kind place conn s c = record {
  world = say conn (request_for kind) s.world;
  polls = s.polls ++ poll_by kind place conn s c ∷ [];
  waits = with_at conn place no_part s.waits;
}

abbrev pub poll_conn : WatchKind → (place conn : ℕ) → Said → Said
poll_conn kind place conn s = option_map_or (poll_on kind place conn s) (conn_with s.world.conns conn) s

abbrev pub poll_if_due : Watcher → (place : ℕ) → Said → Conn → Said
poll_if_due w place s c = if is_due w place c.number s then poll_conn w.kind place c.number s else s

-- a datapath is polled on its connection, where it has one
abbrev pub poll_dp : Watcher → (place : ℕ) → DpId → Said → Said
poll_dp w place dp s = option_map_or (poll_if_due w place s) (conn_of s.world.conns dp) s

-- ---- all watchers, by their names

abbrev pub poll_dps : Watcher → (place : ℕ) → List DpId → Said → Said
poll_dps w place [] s = s
poll_dps w place (dp ∷ dps) s = poll_dps w place dps (poll_dp w place dp s)

abbrev pub poll_for : Watcher → (place : ℕ) → Said → Said
poll_for w place s = if is_polling w.kind then poll_dps w place w.dps s else s

-- where something is due, each datapath in its turn
abbrev pub poll_due : (place : ℕ) → List Watcher → Said → Said
poll_due place [] s = s
poll_due place (w ∷ ws) s = poll_due (suc place) ws (poll_for w place s)

abbrev pub polls_dp : Watcher → DpId → Bool
polls_dp w dp = is_polling w.kind && watches w dp

abbrev pub poll_begun : Watcher → (place : ℕ) → DpId → Said → Said
poll_begun w place dp s = if polls_dp w dp then poll_dp w place dp s else s

-- a datapath that begins to run is polled for each watcher that polls it
abbrev pub poll_first : (place : ℕ) → List Watcher → DpId → Said → Said
poll_first place [] dp s = s
poll_first place (w ∷ ws) dp s = poll_first (suc place) ws dp (poll_begun w place dp s)
