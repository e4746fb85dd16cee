-- What is written: lines for the text dbs of a watcher, and blocks for its others; each with the ends of its lines. A line has six
-- columns with a tab between, namely the file, the moment in milliseconds, the datapath, the port or the flow entry, what is counted, and
-- its value.
use Rattle.std.specs.Prelude.{ℕ, suc, ◌*◌, ◌==◌, ◌&&◌, not, nat_lt, Bool, true, false, if◌then◌else◌, List, [], ◌∷◌, ◌++◌, length, codes, slice_get}
use Rattle.std.specs.Fmt.{decimal}
use Rattle.std.specs.List.{flat_map, list_any}
use Rattle.std.specs.Option.{option_map_or}
use Rattle.net_base.specs.declared.numbers.Moment.{Moment}
use Rattle.conf_types.specs.declared.datapath.Dp.{Dp}
use Rattle.of13_codec.specs.declared.ports.PortDesc.{PortDesc}
use Rattle.of13_codec.specs.declared.ports.PortStats.{PortStats}
use Rattle.switch_session.specs.Told.{is_up}
use Rattle.flow_stats.specs.declared.flow.Flow.{Flow}
use Rattle.prom_text.specs.Blocks.{counter_names, flow_block, flow_name, port_block, port_name, state_block}
use Rattle.prom_text.specs.Counted.{counted_flows, counted_ports, most_flows, most_ports}
use Rattle.prom_text.specs.Samples.{block_text}
use Rattle.gauge_conf.specs.declared.gauge.Db.{Db}
use Rattle.gauge_conf.specs.declared.gauge.Db.TheVariants as db
use Rattle.gauge_conf.specs.declared.gauge.Watcher.{Watcher}
use Rattle.gauge_poll.specs.declared.parts.Waiting.{Waiting}
use Rattle.gauge_poll.specs.declared.poll.Poll.{Poll}
use Rattle.gauge_poll.specs.declared.telling.Telling.{Telling}
use Rattle.gauge_poll.specs.declared.telling.Telling.TheVariants.{Ports, Flows, State, Nothing}
use Rattle.gauge_poll.specs.Polls.{Said, Waits, is_polling, newest, no_part, watches}
use Rattle.gauge_poll.specs.Telling.{answers}

-- ---- one line

abbrev pub columns : List (List ℕ) → List ℕ
columns [] = []
columns (only ∷ []) = only
columns (column ∷ more) = column ++ 9 ∷ columns more

-- of these columns behind the file, to a text db
abbrev pub line_to : (behind : List (List ℕ)) → Db → List (List ℕ)
line_to behind (db.Text file) = (columns (file ∷ behind) ++ 10 ∷ []) ∷ []
line_to behind db.Prometheus = []

-- one for each text db of a watcher
abbrev pub lines_in : Watcher → Moment → Dp → (source counter : List ℕ) → (value : ℕ) → List (List ℕ)
lines_in w moment d source counter value = flat_map (line_to (decimal moment.0 ∷ d.name ∷ source ∷ counter ∷ decimal value ∷ [])) w.dbs

-- ---- counters of ports (OpenFlow 1.3, 7.3.5.6), in the order of the standard

abbrev pub counted_lines : Watcher → Moment → Dp → (source : List ℕ) → (names : List (List ℕ)) → (counters : List ℕ) → List (List ℕ)
counted_lines w moment d source [] counters = []
counted_lines w moment d source (name ∷ names) [] = []
counted_lines w moment d source (name ∷ names) (value ∷ values) =
    lines_in w moment d source name value ++ counted_lines w moment d source names values

abbrev pub stats_lines : Watcher → Moment → Dp → List PortStats → List (List ℕ)
stats_lines w moment d stats = flat_map (λ (port : PortStats). counted_lines w moment d (port_name d port.no) counter_names port.counters) stats

-- ---- flow entries (7.3.5.2): how many packets they took, and then how many bytes

abbrev pub flow_lines : Watcher → Moment → Dp → Flow → List (List ℕ)
flow_lines w moment d f = lines_in w moment d (flow_name f) (codes "packets") f.packets ++ lines_in w moment d (flow_name f) (codes "bytes") f.bytes

abbrev pub flows_lines : Watcher → Moment → Dp → List Flow → List (List ℕ)
flows_lines w moment d flows = flat_map (flow_lines w moment d) flows

-- ---- states of ports (7.4.3): 1 is up, 0 down or deleted

abbrev pub state_of : (reason : ℕ) → PortDesc → ℕ
state_of reason port = if reason == 1 then 0 else (if is_up port then 1 else 0)

-- a watcher of states, of this datapath
abbrev pub tells_states : Dp → Watcher → Bool
tells_states d w = if is_polling w.kind then false else watches w d.id

abbrev pub state_lines : Watcher → Moment → Dp → (reason : ℕ) → PortDesc → List (List ℕ)
state_lines w moment d reason port = if tells_states d w then lines_in w moment d (port_name d port.no) (codes "state") (state_of reason port) else []

-- ---- blocks

abbrev pub block_to : (block : List ℕ) → Db → List (List ℕ)
block_to block (db.Text file) = []
block_to block db.Prometheus = block ∷ []

-- one for each db of a watcher that is no text db
abbrev pub blocks_in : Watcher → (block : List ℕ) → List (List ℕ)
blocks_in w block = flat_map (block_to block) w.dbs

abbrev pub takes_blocks : Db → Bool
takes_blocks (db.Text file) = false
takes_blocks db.Prometheus = true

abbrev pub has_blocks : Watcher → Bool
has_blocks w = list_any takes_blocks w.dbs

abbrev pub state_blocks : Watcher → Dp → (reason : ℕ) → PortDesc → List (List ℕ)
state_blocks w d reason port = if tells_states d w then blocks_in w (block_text (state_block d port.no (state_of reason port == 1))) else []

-- ---- what a message tells, that comes on a connection of this datapath

-- it is a reply to the newest poll for the watcher at this place on the connection
abbrev pub is_counted : (conn place : ℕ) → Telling → (xid : ℕ) → List Poll → Bool
is_counted conn place told xid polls = option_map_or (λ p. p.xid == xid && answers p.kind told) (newest conn place polls) false

-- the lines of one watcher, to whose newest poll on the connection it is a reply, or not
abbrev pub lines_for : Watcher → (counted : Bool) → Moment → Telling → Dp → List (List ℕ)
lines_for w counted moment (Ports more stats) d = if counted then stats_lines w moment d stats else []
lines_for w counted moment (Flows part) d = if counted then flows_lines w moment d part.flows else []
lines_for w counted moment (State reason port) d = state_lines w moment d reason port
lines_for w counted moment Nothing d = []

-- the blocks of one watcher, to whose newest poll on the connection it is a reply, or not: with the last part, of the items of all that
-- came
abbrev pub blocks_for : Watcher → (counted : Bool) → Telling → Waiting → Dp → List (List ℕ)
blocks_for w counted (Ports more stats) waiting d = if counted && not more then blocks_in w (block_text (port_block d (waiting.ports ++ stats))) else []
blocks_for w counted (Flows part) waiting d = if counted && not part.more then blocks_in w (block_text (flow_block d (waiting.flows ++ part.flows))) else []
blocks_for w counted (State reason port) waiting d = state_blocks w d reason port
blocks_for w counted Nothing waiting d = []

-- those of all, by their names: of each the lines, and then the blocks
abbrev pub told_lines : (place : ℕ) → List Watcher → Said → (conn : ℕ) → Telling → (xid : ℕ) → Dp → List (List ℕ)
told_lines place [] s conn told xid d = []
told_lines place (w ∷ ws) s conn told xid d =
    lines_for w (is_counted conn place told xid s.polls) s.world.moment told d
    ++ (blocks_for w (is_counted conn place told xid s.polls) told (s.waits conn place) d ++ told_lines (suc place) ws s conn told xid d)

-- ---- what waits then

-- those that count alone, once they are more than twice as many as can count
abbrev pub few_ports : List PortStats → List PortStats
few_ports items = if nat_lt (2 * most_ports) (length items) then counted_ports items else items

abbrev pub few_flows : List Flow → List Flow
few_flows flows = if nat_lt (2 * most_flows) (length flows) then counted_flows flows else flows

abbrev pub with_ports : List PortStats → Waiting → Waiting
with_ports stats waiting = record waiting { ports = few_ports (waiting.ports ++ stats) }

abbrev pub with_flows : List Flow → Waiting → Waiting
with_flows flows waiting = record waiting { flows = few_flows (waiting.flows ++ flows) }

-- with the items of a part; nothing, where that is the last one
abbrev pub with_items : Telling → Waiting → Waiting
with_items (Ports more stats) waiting = if more then with_ports stats waiting else no_part
with_items (Flows part) waiting = if part.more then with_flows part.flows waiting else no_part
with_items told waiting = waiting

-- of a watcher that writes blocks, once the part came
abbrev pub waiting_for : Watcher → (counted : Bool) → Telling → Waiting → Waiting
waiting_for w counted told waiting = if counted && has_blocks w then with_items told waiting else waiting

-- of all
abbrev pub told_waits : List Watcher → Said → (conn : ℕ) → Telling → (xid : ℕ) → Waits
told_waits ws s conn told xid c p =
    if conn == c then option_map_or (λ w. waiting_for w (is_counted c p told xid s.polls) told (s.waits c p)) (slice_get ws p) (s.waits c p)
    else s.waits c p
