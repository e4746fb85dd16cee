-- Gauge's configuration of a file, with the configuration of the switches that the file names.
use Rattle.std.specs.Prelude.{ℕ, List, Option, Some, None, Result, Ok, Err}
use Rattle.yaml_tree.specs.declared.tree.Tree.{Tree}
use Rattle.conf_types.specs.Configuration.{Configuration}
use Rattle.conf_shape.specs.declared.refused.ConfFault.{ConfFault}
use Rattle.conf_gather.specs.declared.refused.LoadRefused.{LoadRefused}
use Rattle.conf_gather.specs.declared.refused.LoadRefused.TheVariants.{Conf, Absent}
use Rattle.conf_gather.specs.Gives.{◌>>=◌}
use Rattle.conf_gather.specs.Gathered.{Held, Finds, held_by, main_file}
use Rattle.conf_gather.specs.WholeName.{whole_name}
use Rattle.conf_load.specs.Loaded.{loaded_by}
use Rattle.gauge_conf.specs.declared.gauge.GaugeConf.{GaugeConf}
use Rattle.gauge_conf.specs.declared.raw.RawGauge.{RawGauge}
use Rattle.gauge_conf.specs.Conflicts.{written_in}
use Rattle.gauge_conf.specs.Resolved.{gauge_with}

abbrev pub unless_fault : {A : Type 0} → Result A ConfFault → Result A LoadRefused
unless_fault (Ok made) = Ok made
unless_fault (Err fault) = Err (Conf fault)

-- a file that has to be there says this
abbrev pub written : List ℕ → Option Tree → Result RawGauge LoadRefused
written name None = Err (Absent name)
written name (Some t) = unless_fault (written_in t)

-- what the file of this name says, which includes no other, where trees are found so
abbrev pub raw_by : Finds → (name : List ℕ) → Result RawGauge LoadRefused
raw_by finds name = finds (main_file name) >>= written name

abbrev pub with_conf : RawGauge → Configuration → Result GaugeConf LoadRefused
with_conf raw conf = unless_fault (gauge_with raw conf)

-- with the configuration that it names, relative to its folder, with all that this includes
abbrev pub named_by : Finds → (name : List ℕ) → RawGauge → Result GaugeConf LoadRefused
named_by finds name raw = loaded_by finds (whole_name name raw.faucet_config) >>= with_conf raw

-- Gauge's configuration of the file of this name, or why there is none
abbrev pub gauge_by : Finds → (name : List ℕ) → Result GaugeConf LoadRefused
gauge_by finds name = raw_by finds name >>= named_by finds name

-- the same, where these files are held
abbrev pub gauge_of : Held → (name : List ℕ) → Result GaugeConf LoadRefused
gauge_of held name = gauge_by (held_by held) name
