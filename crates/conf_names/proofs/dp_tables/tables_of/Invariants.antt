use Rattle.std.proofs.Common.{◌≡◌, ◌++◌, map, drop}
use Rattle.conf_names.specs.Tables.{in_conf}
use Rattle.conf_names.proofs.dp_tables.tables_of.Given as goal

-- what is left completes the list
abbrev pub invariant-loop-dp : goal.invariant-loop-dp
invariant-loop-dp l = map (λ t. in_conf t.conf.now t.dp.now) l.tables.items ++ map (in_conf l.conf) (drop l.dp-index l.conf.dps) ≡ map (in_conf l.conf) l.conf.dps
