use Rattle.std.proofs.Common.{◌≡◌, drop, take, codes, [], ◌∷◌}
use Rattle.conf_rules.specs.Places.{first, nth, under, with_earlier, each_at}
use Rattle.conf_rules.specs.Routing.{overlapping_vip}
use Rattle.std.specs.List.{flat_map, enumerate_from}
use Rattle.conf_limits.proofs.routing.overlapping_of_vlan.Given as goal

-- none so far breaks the rule
abbrev pub invariant-loop-i : goal.invariant-loop-i
invariant-loop-i l = first (flat_map (overlapping_vip l.joined.conf.now (l.earlier, l.vlan)) (flat_map (λ item. (nth (under l.placed.site (codes "faucet_vips")) item.0, item.1) ∷ []) (enumerate_from l.i (with_earlier (take l.i l.vlan.vips) (drop l.i l.vlan.vips))))) ≡ first (flat_map (overlapping_vip l.joined.conf.now (l.earlier, l.vlan)) (each_at (under l.placed.site (codes "faucet_vips")) (with_earlier [] l.vlan.vips)))
