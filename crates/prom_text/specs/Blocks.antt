-- The blocks of a datapath: of ports' counters, of flow entries, and of a port's state.
use Rattle.std.specs.Prelude.{ℕ, suc, nat_le, ◌&&◌, Bool, if◌then◌else◌, List, [], ◌∷◌, ◌++◌, codes, map, slice_index}
use Rattle.std.specs.Fmt.{decimal}
use Rattle.std.specs.Option.{option_map_or}
use Rattle.conf_types.specs.declared.datapath.Dp.{Dp}
use Rattle.conf_types.specs.Configuration.{port_with}
use Rattle.of13_codec.specs.declared.ports.PortStats.{PortStats}
use Rattle.flow_stats.specs.declared.flow.Flow.{Flow}
use Rattle.hex.specs.Hex.{encode_lower}
use Rattle.prom_text.specs.Samples.{Label, Sample, Metric}
use Rattle.prom_text.specs.Counted.{counted_ports, counted_flows}

-- ---- labels

abbrev pub label : (name value : List ℕ) → Label
label name value = record { name = name; value = value }

abbrev pub dp_labels : Dp → List Label
dp_labels d = label (codes "dp_id") (decimal d.id.0) ∷ label (codes "dp_name") d.name ∷ []

-- the numbers above OFPP_MAX, 0xffffff00, are those of no port (OpenFlow 1.3, 7.2.1); so is 0
abbrev pub is_port_no : ℕ → Bool
is_port_no n = nat_le 1 n && nat_le n 0xffffff00

-- the name of an interface, or the number of a port that isn't configured
abbrev pub port_name : Dp → (number : ℕ) → List ℕ
port_name d number = if is_port_no number then option_map_or (λ p. p.name) (port_with d.ports number) (decimal number) else decimal number

abbrev pub port_labels : Dp → (number : ℕ) → List Label
port_labels d number = dp_labels d ++ label (codes "port") (decimal number) ∷ label (codes "port_name") (port_name d number) ∷ []

-- the match stands in hexadecimal digits
abbrev pub flow_labels : Dp → Flow → List Label
flow_labels d f =
    dp_labels d
    ++ label (codes "table") (decimal f.table) ∷ label (codes "priority") (decimal f.priority) ∷ label (codes "match") (encode_lower f.key) ∷ []

-- ---- metrics

-- the labels of an item, and its value for each metric
pub record Row : Type 0 where
  pub labels : List Label
  pub values : List ℕ

abbrev pub sample_at : (place : ℕ) → Row → Sample
sample_at place r = record { labels = r.labels; value = slice_index r.values place }

-- the metric to which the values at a place belong
abbrev pub metric : (name kind : List ℕ) → (place : ℕ) → List Row → Metric
metric name kind place rows = record { name = name; kind = kind; samples = map (sample_at place) rows }

abbrev pub metrics : (names : List (List ℕ)) → (kind : List ℕ) → (place : ℕ) → List Row → List Metric
metrics [] kind place rows = []
metrics (name ∷ names) kind place rows = metric name kind place rows ∷ metrics names kind (suc place) rows

-- ---- counters of ports (OpenFlow 1.3, 7.3.5.6), in the order of the standard

abbrev pub counter_names : List (List ℕ)
counter_names =
    codes "rx_packets" ∷ codes "tx_packets" ∷ codes "rx_bytes" ∷ codes "tx_bytes" ∷ codes "rx_dropped" ∷ codes "tx_dropped"
    ∷ codes "rx_errors" ∷ codes "tx_errors" ∷ codes "rx_frame_err" ∷ codes "rx_over_err" ∷ codes "rx_crc_err" ∷ codes "collisions" ∷ []

unfoldable pub port_metric_names : List (List ℕ)
port_metric_names = map (λ name. codes "of_port_" ++ name) counter_names

abbrev pub port_row : Dp → PortStats → Row
port_row d port = record { labels = port_labels d port.no; values = port.counters }

abbrev pub port_rows : Dp → List PortStats → List Row
port_rows d items = map (port_row d) (counted_ports items)

unfoldable pub port_block : Dp → List PortStats → List Metric
port_block d items = metrics port_metric_names (codes "counter") 0 (port_rows d items)

-- ---- flow entries (7.3.5.2): how many packets and bytes they took

abbrev pub flow_metric_names : List (List ℕ)
flow_metric_names = codes "of_flow_packets" ∷ codes "of_flow_bytes" ∷ []

abbrev pub flow_row : Dp → Flow → Row
flow_row d f = record { labels = flow_labels d f; values = f.packets ∷ f.bytes ∷ [] }

abbrev pub flow_rows : Dp → List Flow → List Row
flow_rows d flows = map (flow_row d) (counted_flows flows)

unfoldable pub flow_block : Dp → List Flow → List Metric
flow_block d flows = metrics flow_metric_names (codes "counter") 0 (flow_rows d flows)

-- ---- the state of a port: 1 is up, 0 down or deleted

abbrev pub state_row : Dp → (number : ℕ) → (up : Bool) → Row
state_row d number up = record { labels = port_labels d number; values = (if up then 1 else 0) ∷ [] }

unfoldable pub state_block : Dp → (number : ℕ) → (up : Bool) → List Metric
state_block d number up = metrics (codes "of_port_state" ∷ []) (codes "gauge") 0 (state_row d number up ∷ [])

-- ---- a flow entry in a line: its table, its priority and its match

unfoldable pub flow_name : Flow → List ℕ
flow_name f = decimal f.table ++ codes ":" ++ decimal f.priority ++ codes ":" ++ encode_lower f.key
