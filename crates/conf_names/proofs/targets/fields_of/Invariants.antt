use Rattle.std.proofs.Common.{◌≡◌, drop, map, ◌++◌}
use Rattle.conf_names.proofs.targets.fields_of.Given as goal

-- what is left completes the list
abbrev pub invariant-loop-raw : goal.invariant-loop-raw
invariant-loop-raw l = l.fields ++ map (λ g. g.field) (drop l.raw-index l.rule.fields) ≡ map (λ g. g.field) l.rule.fields
