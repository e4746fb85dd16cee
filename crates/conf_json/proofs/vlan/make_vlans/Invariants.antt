use Rattle.std.proofs.Common.{◌≡◌, [], take, fold, map}
use Rattle.conf_json.specs.Json.{with_member}
use Rattle.conf_json.specs.Text.{vlan_member}
use Rattle.conf_json.proofs.vlan.make_vlans.Given as goal

-- the members so far are those of the items so far
abbrev pub invariant-loop-vlan : goal.invariant-loop-vlan
invariant-loop-vlan l = l.made ≡ fold with_member [] (map vlan_member (take l.vlan-index l.vlans))
