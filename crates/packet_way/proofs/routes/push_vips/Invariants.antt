use Rattle.std.proofs.Common.{◌≡◌, ◌++◌, map, take}
use Rattle.packet_way.specs.Routes.{vip_item}
use Rattle.packet_way.proofs.routes.push_vips.Given as goal

-- those of the VIPs so far
abbrev pub invariant-loop-vip : goal.invariant-loop-vip
invariant-loop-vip l = l.out ≡ l.fn.out ++ map vip_item (take l.vip-index l.vips)
