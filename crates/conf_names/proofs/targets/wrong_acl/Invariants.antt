use Rattle.std.proofs.Common.{◌≡◌, drop, codes, [], ◌∷◌}
use Rattle.conf_rules.specs.Places.{first, nth, each_at}
use Rattle.conf_rules.specs.Ports.{wrong_rule}
use Rattle.std.specs.List.{flat_map, enumerate_from}
use Rattle.conf_names.proofs.targets.wrong_acl.Given as goal

-- none so far breaks the rule
abbrev pub invariant-loop-i : goal.invariant-loop-i
invariant-loop-i l = first (flat_map (wrong_rule l.targets.conf.now l.acl) (flat_map (λ item. (nth (codes "acls" ∷ l.acl.name ∷ []) item.0, item.1) ∷ []) (enumerate_from l.i (drop l.i l.acl.rules)))) ≡ first (flat_map (wrong_rule l.targets.conf.now l.acl) (each_at (codes "acls" ∷ l.acl.name ∷ []) l.acl.rules))
