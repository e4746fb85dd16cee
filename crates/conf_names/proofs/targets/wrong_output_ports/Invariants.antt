use Rattle.std.proofs.Common.{◌≡◌, drop, codes, [], ◌∷◌}
use Rattle.conf_rules.specs.Places.{first, nth, under, nth_of, each_at}
use Rattle.conf_rules.specs.Ports.{wrong_port, actions_site}
use Rattle.std.specs.List.{flat_map, enumerate_from}
use Rattle.conf_names.proofs.targets.wrong_output_ports.Given as goal

-- none so far breaks the rule
abbrev pub invariant-loop-i : goal.invariant-loop-i
invariant-loop-i l = first (flat_map (wrong_port l.targets.conf.now l.placed.acl.now) (flat_map (λ item. (nth (under (nth_of (under (actions_site (nth (codes "acls" ∷ l.placed.acl.now.name ∷ []) l.placed.at)) (codes "output")) l.placed.place) (codes "ports")) item.0, item.1) ∷ []) (enumerate_from l.i (drop l.i l.placed.output.now.ports)))) ≡ first (flat_map (wrong_port l.targets.conf.now l.placed.acl.now) (each_at (under (nth_of (under (actions_site (nth (codes "acls" ∷ l.placed.acl.now.name ∷ []) l.placed.at)) (codes "output")) l.placed.place) (codes "ports")) l.placed.output.now.ports))
