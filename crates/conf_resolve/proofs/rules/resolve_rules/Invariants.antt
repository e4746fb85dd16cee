use Rattle.std.proofs.Common.{◌≡◌, ◌++◌, map, drop}
use Rattle.conf_resolve.specs.Resolved.{rule_of}
use Rattle.conf_resolve.proofs.rules.resolve_rules.Given as goal

-- what is left completes the list
abbrev pub invariant-loop-rule : goal.invariant-loop-rule
invariant-loop-rule l = l.made ++ map rule_of (drop l.rule-index l.rules) ≡ map rule_of l.rules
