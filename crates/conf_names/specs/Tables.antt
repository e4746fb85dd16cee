-- A datapath beside its configuration.
use Rattle.conf_types.specs.declared.datapath.Dp.{Dp}
use Rattle.conf_types.specs.Configuration.{Configuration}

abbrev pub in_conf : Configuration → Dp → Configuration × Dp
in_conf conf d = (conf, d)
