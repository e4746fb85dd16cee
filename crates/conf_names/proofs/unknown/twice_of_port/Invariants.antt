use Rattle.std.proofs.Common.{◌≡◌, drop, take, codes, [], ◌∷◌, option_and_then}
use Rattle.conf_resolve.specs.InOrder.{port_site}
use Rattle.conf_resolve.specs.Resolved.{vid_of}
use Rattle.conf_rules.specs.Names.{vid_again, twice_of_port}
use Rattle.conf_rules.specs.Places.{first, nth, under, with_earlier}
use Rattle.conf_names.proofs.SeenTagged.{HasVids}
use Rattle.std.specs.List.{flat_map, enumerate_from}
use Rattle.conf_names.proofs.unknown.twice_of_port.Given as goal

-- none so far breaks the rule, and the native VLAN and those so far are seen
abbrev pub invariant-loop-i : goal.invariant-loop-i
invariant-loop-i l =
    (first (flat_map (vid_again (option_and_then (vid_of l.ordered.vlans) l.port.native)) (flat_map (λ item. (nth (under (port_site l.dp l.port) (codes "tagged_vlans")) item.0, item.1) ∷ []) (enumerate_from l.i (with_earlier (take l.i l.vid-items) (drop l.i l.vid-items))))) ≡ first (twice_of_port l.ordered l.dp l.port))
    × HasVids l.seen (option_and_then (vid_of l.ordered.vlans) l.port.native) (take l.i l.vid-items)
