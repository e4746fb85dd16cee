-- What is wrong between the keys and names of Gauge's file, watcher by watcher in byte order of their names.
use Rattle.std.specs.Prelude.{◌≡◌, ℕ, Bool, is_some, is_none, List, [], ◌∷◌, ◌++◌, codes, map, Option, Some, None, Result, Ok, Err}
use Rattle.std.specs.List.{find, flat_map}
use Rattle.std.specs.Str.{bytes_eq}
use Rattle.yaml_tree.specs.declared.tree.Tree.{Tree}
use Rattle.conf_shape.specs.declared.refused.ConfCause.TheVariants.{Unresolved, Conflict}
use Rattle.conf_shape.specs.declared.refused.ConfFault.{ConfFault}
use Rattle.conf_shape.specs.declared.refused.ConfRefused.{ConfRefused}
use Rattle.conf_shape.specs.declared.refused.ConfRefused.TheVariants as refused
use Rattle.conf_resolve.specs.Resolved.{to_list}
use Rattle.conf_rules.specs.Places.{fault_if, first, under, each_at}
use Rattle.gauge_conf.specs.declared.raw.RawWatcher.{RawWatcher}
use Rattle.gauge_conf.specs.declared.raw.RawDb.{RawDb}
use Rattle.gauge_conf.specs.declared.raw.RawGauge.{RawGauge}
use Rattle.gauge_conf.specs.Faults.{agree, first_fault}
use Rattle.gauge_conf.specs.Raw.{raw_of}

abbrev pub watcher_site : RawWatcher → List (List ℕ)
watcher_site w = codes "watchers" ∷ w.name ∷ []

abbrev pub db_named : List RawDb → List ℕ → Option RawDb
db_named dbs name = find (λ d. bytes_eq d.name name) dbs

abbrev pub unknown_db : List RawDb → List (List ℕ) × List ℕ → List ConfFault
unknown_db dbs item = fault_if (is_none (db_named dbs item.1)) Unresolved item.0

-- `db`, where it is given
abbrev pub unknown_one : List RawDb → RawWatcher → List ConfFault
unknown_one dbs w = flat_map (λ name. unknown_db dbs (under (watcher_site w) (codes "db"), name)) (to_list w.db)

-- `dbs`, where it is given
abbrev pub unknown_listed : List RawDb → RawWatcher → List ConfFault
unknown_listed dbs w = flat_map (λ names. flat_map (unknown_db dbs) (each_at (under (watcher_site w) (codes "dbs")) names)) (to_list w.dbs)

-- of `dps` and `all_dps` just one is given, and of `db` and `dbs`; and each db that is named exists
abbrev pub watcher_conflicts : List RawDb → RawWatcher → List ConfFault
watcher_conflicts dbs w =
    fault_if (agree (is_some w.dps) w.all_dps) (Conflict 1) (watcher_site w)
    ++ fault_if (agree (is_some w.db) (is_some w.dbs)) (Conflict 2) (watcher_site w)
    ++ unknown_one dbs w
    ++ unknown_listed dbs w

abbrev pub conflicts : RawGauge → List ConfFault
conflicts raw = flat_map (watcher_conflicts raw.dbs) raw.watchers

-- the fault where there is one, or else what is made
abbrev pub unless : {A : Type 0} → Option ConfFault → Result A ConfFault → Result A ConfFault
unless None made = made
unless (Some fault) made = Err fault

-- what a document says, or its first fault: one of its shape, or else one between its keys and names
unfoldable pub written_in : Tree → Result RawGauge ConfFault
written_in t = unless (first_fault t) (unless (first (conflicts (raw_of t))) (Ok (raw_of t)))

-- what a refusal says; want of memory says nothing of the document
abbrev pub IsRefused : {A : Type 0} → Result A ConfFault → ConfRefused → Type 0
IsRefused given (refused.At fault) = given ≡ Err fault
IsRefused given refused.Memory = Unit {0}
