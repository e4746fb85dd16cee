use Rattle.std.proofs.Common.{◌≡◌, [], take}
use Rattle.std.specs.List.{flat_map}
use Rattle.std.specs.Option.{option_map_or}
use Rattle.conf_types.specs.Configuration.{vlan_with}
use Rattle.packet_way.specs.Routes.{items_for}
use Rattle.packet_way.proofs.routes.route_list.Given as goal

-- those of the VLANs so far
abbrev pub invariant-loop-other : goal.invariant-loop-other
invariant-loop-other l = l.made ≡ flat_map (λ w. option_map_or (items_for l.neighbours l.group l.vid) (vlan_with l.conf.vlans w) []) (take l.other-index l.other-items)
