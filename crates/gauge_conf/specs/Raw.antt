-- What is written in Gauge's file. Nothing stands for what isn't given, and a tree of another shape gives
-- what nothing gives.
use Rattle.std.specs.Prelude.{ℕ, Bool, ◌-◌, ◌^◌, if◌then◌else◌, is_some, List, [], ◌∷◌, codes, map, Option, Some, None, option_and_then, unwrap_or}
use Rattle.std.specs.Option.{option_map, option_map_or}
use Rattle.std.specs.Str.{bytes_eq}
use Rattle.yaml_tree.specs.declared.tree.Pair.{Pair}
use Rattle.yaml_tree.specs.declared.tree.Tree.{Tree}
use Rattle.conf_shape.specs.Sections.{key_text}
use Rattle.conf_shape.specs.Reads.{value_at, number_of, words_of, items_of, entries_of, words_at, entries_at, default_number}
use Rattle.conf_resolve.specs.InOrder.{in_order, is_text_before}
use Rattle.gauge_conf.specs.declared.gauge.Db.{Db}
use Rattle.gauge_conf.specs.declared.gauge.Db.TheVariants as db
use Rattle.gauge_conf.specs.declared.gauge.WatchKind.{WatchKind}
use Rattle.gauge_conf.specs.declared.gauge.WatchKind.TheVariants.{PortState, PortStats, FlowTable}
use Rattle.gauge_conf.specs.declared.raw.RawWatcher.{RawWatcher}
use Rattle.gauge_conf.specs.declared.raw.RawDb.{RawDb}
use Rattle.gauge_conf.specs.declared.raw.RawGauge.{RawGauge}
use Rattle.gauge_conf.specs.Keys.{watcher_keys, default_of, is_prometheus}

abbrev pub kind_of : List ℕ → WatchKind
kind_of text =
    if bytes_eq text (codes "port_state") then PortState
    else if bytes_eq text (codes "flow_table") then FlowTable
    else PortStats

abbrev pub names_of : Tree → List (List ℕ)
names_of t = map words_of (items_of t)

-- the list of texts under a key, where it is given
abbrev pub names_at : List ℕ → List Pair → Option (List (List ℕ))
names_at name pairs = option_map names_of (value_at name pairs)

abbrev pub interval_at : List Pair → ℕ
interval_at pairs = unwrap_or (option_and_then (number_of 0 (2 ^ 32 - 1)) (value_at (codes "interval") pairs)) (default_number (default_of watcher_keys (codes "interval")))

abbrev pub watcher_with : List ℕ → List Pair → RawWatcher
watcher_with name pairs = record {
  name = name;
  kind = kind_of (words_at (codes "type") pairs);
  dps = names_at (codes "dps") pairs;
  all_dps = is_some (value_at (codes "all_dps") pairs);
  db = option_map words_of (value_at (codes "db") pairs);
  dbs = names_at (codes "dbs") pairs;
  interval = interval_at pairs;
}

abbrev pub watcher_of : Pair → RawWatcher
watcher_of p = watcher_with (key_text p.key) (entries_of p.value)

abbrev pub db_with : List Pair → Db
db_with pairs = if is_prometheus pairs then db.Prometheus else db.Text (words_at (codes "file") pairs)

abbrev pub db_of : Pair → RawDb
db_of p = record { name = key_text p.key; db = db_with (entries_of p.value) }

abbrev pub is_before : RawWatcher → RawWatcher → Bool
is_before w v = is_text_before w.name v.name

abbrev pub first_text : List (List ℕ) → List ℕ
first_text [] = []
first_text (text ∷ texts) = text

abbrev pub raw_with : List Pair → RawGauge
raw_with pairs = record {
  faucet_config = first_text (unwrap_or (names_at (codes "faucet_configs") pairs) []);
  watchers = in_order is_before (map watcher_of (entries_at (codes "watchers") pairs));
  dbs = map db_of (entries_at (codes "dbs") pairs);
}

unfoldable pub raw_of : Tree → RawGauge
raw_of t = raw_with (entries_of t)
