-- The keys of Gauge's file, a table for each kind of map, in the order of the reference.
use Rattle.std.specs.Prelude.{ℕ, Bool, true, false, not, if◌then◌else◌, List, [], ◌∷◌, codes, Option, Some, None}
use Rattle.std.specs.Option.{option_map_or}
use Rattle.std.specs.Str.{bytes_eq}
use Rattle.yaml_tree.specs.declared.tree.Pair.{Pair}
use Rattle.conf_shape.specs.declared.refused.ConfCause.TheVariants.{OutOfRange, LeftOut}
use Rattle.conf_shape.specs.Keys.{KeyDefault, Nothing, Count, seen_default}
use Rattle.conf_shape.specs.Reads.{words_at}
use Rattle.gauge_conf.specs.declared.forms.Form.{Form}
use Rattle.gauge_conf.specs.declared.forms.Form.TheVariants.{Words, Texts, OneText, FileName, Word, Number, Only, Named}
use Rattle.gauge_conf.specs.declared.forms.Need.{Need}
use Rattle.gauge_conf.specs.declared.forms.Need.TheVariants.{Always, UnlessPrometheus, Never}
use Rattle.gauge_conf.specs.declared.forms.Part.{Part}
use Rattle.gauge_conf.specs.declared.forms.Part.TheVariants.{Watcher, Db}
use Rattle.gauge_conf.specs.declared.forms.Vocabulary.{Vocabulary}
use Rattle.gauge_conf.specs.declared.forms.Vocabulary.TheVariants.{WatcherTypes, DbTypes}
use Rattle.gauge_conf.specs.declared.tables.Row.{Row}

-- a key, what its value has to be, whether it has to be there, and its default
pub record KeyRow : Type 0 where
  pub key : List ℕ
  pub form : Form
  pub need : Need
  pub default : KeyDefault

abbrev pub row : List ℕ → Form → Need → KeyDefault → KeyRow
row key form need default = record { key = key; form = form; need = need; default = default }

abbrev pub top_keys : List KeyRow
top_keys =
    row (codes "faucet_configs") OneText Always Nothing ∷
    row (codes "watchers") (Named Watcher) Always Nothing ∷
    row (codes "dbs") (Named Db) Always Nothing ∷
    []

abbrev pub watcher_keys : List KeyRow
watcher_keys =
    row (codes "type") (Word WatcherTypes) Always Nothing ∷
    row (codes "dps") Texts Never Nothing ∷
    row (codes "all_dps") (Only true OutOfRange) Never Nothing ∷
    row (codes "db") Words Never Nothing ∷
    row (codes "dbs") Texts Never Nothing ∷
    row (codes "interval") (Number 1 86400) Never (Count 30) ∷
    []

abbrev pub db_keys : List KeyRow
db_keys =
    row (codes "type") (Word DbTypes) Always Nothing ∷
    row (codes "file") FileName UnlessPrometheus Nothing ∷
    row (codes "prometheus_addr") Words Never Nothing ∷
    row (codes "prometheus_port") (Number 1 65535) Never Nothing ∷
    row (codes "compress") (Only false LeftOut) Never Nothing ∷
    []

abbrev pub keys_of : Part → List KeyRow
keys_of Watcher = watcher_keys
keys_of Db = db_keys

-- the texts of which a value has to be one, and others that are known and left out
abbrev pub words_of : Vocabulary → List (List ℕ)
words_of WatcherTypes = codes "port_state" ∷ codes "port_stats" ∷ codes "flow_table" ∷ []
words_of DbTypes = codes "text" ∷ codes "prometheus" ∷ []

abbrev pub left_out_of : Vocabulary → List (List ℕ)
left_out_of WatcherTypes = []
left_out_of DbTypes = codes "influx" ∷ []

-- these are the entries of a db that is written to in Prometheus' text format
abbrev pub is_prometheus : List Pair → Bool
is_prometheus pairs = bytes_eq (words_at (codes "type") pairs) (codes "prometheus")

abbrev pub is_needed : List Pair → Need → Bool
is_needed pairs Always = true
is_needed pairs UnlessPrometheus = not (is_prometheus pairs)
is_needed pairs Never = false

abbrev pub row_at : List ℕ → List KeyRow → Option KeyRow
row_at name [] = None
row_at name (r ∷ rs) = if bytes_eq r.key name then Some r else row_at name rs

-- what stands where a key isn't given
abbrev pub default_of : List KeyRow → List ℕ → KeyDefault
default_of rows name = option_map_or (λ r. r.default) (row_at name rows) Nothing

-- the code's rows as these
abbrev pub seen_row : Row → KeyRow
seen_row r = record { key = r.key.now; form = r.form; need = r.need; default = seen_default r.default }
