use Rattle.std.proofs.Common.{◌≡◌, drop}
use Rattle.conf_rules.specs.Places.{first}
use Rattle.conf_rules.specs.Ports.{wrong_on, wrong_targets}
use Rattle.std.specs.List.{flat_map}
use Rattle.conf_names.proofs.dp_tables.Targets.wrong_cause.Given as goal

-- none so far breaks the rule
abbrev pub invariant-loop-tables : goal.invariant-loop-tables
invariant-loop-tables l = first (flat_map (λ t. wrong_on t.conf.now l.acl.name l.name t.dp.now) (drop l.tables-index l.self.dps.items)) ≡ first (wrong_targets l.self.conf.now l.acl.name l.name)
