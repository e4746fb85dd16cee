use Rattle.std.proofs.Common.{◌≡◌, drop, codes, [], ◌∷◌}
use Rattle.conf_rules.specs.Places.{first, nth, under, each_at}
use Rattle.conf_rules.specs.Ports.{wrong_output, actions_site}
use Rattle.std.specs.List.{flat_map, enumerate_from}
use Rattle.conf_names.proofs.targets.wrong_outputs.Given as goal

-- none so far breaks the rule
abbrev pub invariant-loop-i : goal.invariant-loop-i
invariant-loop-i l = first (flat_map (wrong_output l.targets.conf.now l.acl) (flat_map (λ item. (nth (under (actions_site (nth (codes "acls" ∷ l.acl.name ∷ []) l.at)) (codes "output")) item.0, item.1) ∷ []) (enumerate_from l.i (drop l.i l.outputs)))) ≡ first (flat_map (wrong_output l.targets.conf.now l.acl) (each_at (under (actions_site (nth (codes "acls" ∷ l.acl.name ∷ []) l.at)) (codes "output")) l.outputs))
