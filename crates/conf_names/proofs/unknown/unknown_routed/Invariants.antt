use Rattle.std.proofs.Common.{◌≡◌, drop, codes, [], ◌∷◌}
use Rattle.conf_resolve.specs.InOrder.{router_site}
use Rattle.conf_rules.specs.Names.{unknown_vlan}
use Rattle.conf_rules.specs.Places.{first, nth, under, each_at}
use Rattle.std.specs.List.{flat_map, enumerate_from}
use Rattle.conf_names.proofs.unknown.unknown_routed.Given as goal

-- none so far breaks the rule
abbrev pub invariant-loop-i : goal.invariant-loop-i
invariant-loop-i l = first (flat_map (unknown_vlan l.ordered) (flat_map (λ item. (nth (under (router_site l.router) (codes "vlans")) item.0, item.1) ∷ []) (enumerate_from l.i (drop l.i l.router.vlans)))) ≡ first (flat_map (unknown_vlan l.ordered) (each_at (under (router_site l.router) (codes "vlans")) l.router.vlans))
