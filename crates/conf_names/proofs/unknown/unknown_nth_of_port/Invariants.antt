use Rattle.std.proofs.Common.{◌≡◌, drop, codes, [], ◌∷◌}
use Rattle.conf_resolve.specs.InOrder.{port_site}
use Rattle.conf_rules.specs.Names.{unknown_acl}
use Rattle.conf_rules.specs.Places.{first, nth, under, each_at}
use Rattle.std.specs.List.{flat_map, enumerate_from}
use Rattle.conf_names.proofs.unknown.unknown_nth_of_port.Given as goal

-- none so far breaks the rule
abbrev pub invariant-loop-i : goal.invariant-loop-i
invariant-loop-i l = first (flat_map (unknown_acl l.acls) (flat_map (λ item. (nth (under (port_site l.dp l.port) (codes "acls_in")) item.0, item.1) ∷ []) (enumerate_from l.i (drop l.i l.names)))) ≡ first (flat_map (unknown_acl l.acls) (each_at (under (port_site l.dp l.port) (codes "acls_in")) l.names))
