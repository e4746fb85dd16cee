use Rattle.std.proofs.Common.{◌≡◌, not, take, filter}
use Rattle.conf_types.specs.Networks.{is_link_local}
use Rattle.packet_way.proofs.routes.wide_vips.Given as goal

-- those of the VIPs so far
abbrev pub invariant-loop-vip : goal.invariant-loop-vip
invariant-loop-vip l = l.made ≡ filter (λ vip. not (is_link_local vip)) (take l.vip-index l.vips)
