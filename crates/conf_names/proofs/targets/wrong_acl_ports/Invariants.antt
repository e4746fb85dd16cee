use Rattle.std.proofs.Common.{◌≡◌, drop}
use Rattle.conf_rules.specs.Places.{first}
use Rattle.conf_rules.specs.Ports.{wrong_acl}
use Rattle.std.specs.List.{flat_map}
use Rattle.conf_names.proofs.targets.wrong_acl_ports.Given as goal

-- none so far breaks the rule
abbrev pub invariant-loop-acl : goal.invariant-loop-acl
invariant-loop-acl l = first (flat_map (wrong_acl l.conf) (drop l.acl-index l.ordered.acls)) ≡ first (flat_map (wrong_acl l.conf) l.ordered.acls)
