use Rattle.std.proofs.Common.{◌≡◌, take, map}
use Rattle.conf_json.specs.Text.{vip_text}
use Rattle.conf_json.proofs.vlan.make_vips.Given as goal

-- the texts so far are those of the items so far
abbrev pub invariant-loop-vip : goal.invariant-loop-vip
invariant-loop-vip l = l.made ≡ map vip_text (take l.vip-index l.vips)
