-- What Gauge watches, with the configuration of the switches.
use Rattle.std.specs.Prelude.{ℕ, Bool, is_none, if◌then◌else◌, List, [], ◌∷◌, ◌++◌, codes, map, nat_lt, Option, Some, None, Result, Ok, unwrap_or}
use Rattle.std.specs.List.{find, filter_map, flat_map, list_any}
use Rattle.std.specs.Option.{option_map}
use Rattle.std.specs.Str.{bytes_eq}
use Rattle.net_base.specs.declared.numbers.DpId.{DpId}
use Rattle.conf_types.specs.declared.datapath.Dp.{Dp}
use Rattle.conf_types.specs.Configuration.{Configuration}
use Rattle.conf_shape.specs.declared.refused.ConfCause.TheVariants.{Unresolved}
use Rattle.conf_shape.specs.declared.refused.ConfFault.{ConfFault}
use Rattle.conf_resolve.specs.InOrder.{in_order}
use Rattle.conf_resolve.specs.Resolved.{to_list}
use Rattle.conf_rules.specs.Places.{fault_if, first, under, each_at}
use Rattle.gauge_conf.specs.declared.gauge.Db.{Db}
use Rattle.gauge_conf.specs.declared.gauge.Watcher.{Watcher}
use Rattle.gauge_conf.specs.declared.gauge.GaugeConf.{GaugeConf}
use Rattle.gauge_conf.specs.declared.raw.RawWatcher.{RawWatcher}
use Rattle.gauge_conf.specs.declared.raw.RawDb.{RawDb}
use Rattle.gauge_conf.specs.declared.raw.RawGauge.{RawGauge}
use Rattle.gauge_conf.specs.Conflicts.{watcher_site, db_named, unless}

abbrev pub is_among : List (List ℕ) → List ℕ → Bool
is_among names name = list_any (λ other. bytes_eq other name) names

-- the name behind the others, unless it is among them
abbrev pub with_new : List (List ℕ) → List ℕ → List (List ℕ)
with_new names name = if is_among names name then names else names ++ name ∷ []

-- those that aren't among these, each at its first place
abbrev pub new_ones : List (List ℕ) → List (List ℕ) → List (List ℕ)
new_ones seen [] = []
new_ones seen (name ∷ names) = if is_among seen name then new_ones seen names else name ∷ new_ones (seen ++ name ∷ []) names

-- each at its first place
abbrev pub once : List (List ℕ) → List (List ℕ)
once names = new_ones [] names

abbrev pub dp_named : List Dp → List ℕ → Option Dp
dp_named dps name = find (λ d. bytes_eq d.name name) dps

-- ---- datapaths that are named and don't exist

abbrev pub unknown_dp : List Dp → List (List ℕ) × List ℕ → List ConfFault
unknown_dp dps item = fault_if (is_none (dp_named dps item.1)) Unresolved item.0

abbrev pub unknown_of : List Dp → RawWatcher → List ConfFault
unknown_of dps w = flat_map (λ names. flat_map (unknown_dp dps) (each_at (under (watcher_site w) (codes "dps")) names)) (to_list w.dps)

abbrev pub unknown_dps : List Dp → List RawWatcher → List ConfFault
unknown_dps dps ws = flat_map (unknown_of dps) ws

-- ---- what watchers stand for

abbrev pub id_of : List Dp → List ℕ → Option DpId
id_of dps name = option_map (λ d. d.id) (dp_named dps name)

-- ascending
abbrev pub by_number : List DpId → List DpId
by_number ids = in_order (λ a b. nat_lt a.0 b.0) ids

-- those that are listed, or all, ascending
abbrev pub watched : List Dp → Option (List (List ℕ)) → List DpId
watched dps (Some names) = by_number (filter_map (id_of dps) (once names))
watched dps None = by_number (map (λ d. d.id) dps)

abbrev pub found_db : List RawDb → List ℕ → Option Db
found_db dbs name = option_map (λ d. d.db) (db_named dbs name)

-- the names of dbs: `db`, or else those of `dbs`
abbrev pub db_names : RawWatcher → List (List ℕ)
db_names w = unwrap_or (option_map (λ name. name ∷ []) w.db) (unwrap_or w.dbs [])

abbrev pub dbs_of : List RawDb → RawWatcher → List Db
dbs_of dbs w = filter_map (found_db dbs) (once (db_names w))

abbrev pub watcher_of : List RawDb → List Dp → RawWatcher → Watcher
watcher_of dbs dps w = record {
  name = w.name;
  kind = w.kind;
  dps = watched dps w.dps;
  interval = w.interval;
  dbs = dbs_of dbs w;
}

-- what is written, with this configuration: what Gauge watches, or the first datapath that isn't there
unfoldable pub gauge_with : RawGauge → Configuration → Result GaugeConf ConfFault
gauge_with raw conf = unless (first (unknown_dps conf.dps raw.watchers)) (Ok (record { watchers = map (watcher_of raw.dbs conf.dps) raw.watchers; conf = conf }))
