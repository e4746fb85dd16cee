use Rattle.std.proofs.Common.{◌≡◌, ◌++◌, drop, map}
use Rattle.bgp_texts.specs.Trees.{in_vlans}
use Rattle.bgp_texts.proofs.trees.all_in_vlans.Given as goal

-- those of what is left complete the list
abbrev pub invariant-loop-pair : goal.invariant-loop-pair
invariant-loop-pair l = l.made ++ map (in_vlans l.vlan l.items) (drop l.pair-index l.pairs) ≡ map (in_vlans l.vlan l.items) l.pairs
