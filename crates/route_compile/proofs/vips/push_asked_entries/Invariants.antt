use Rattle.std.proofs.Common.{◌≡◌, ◌++◌, map, take}
use Rattle.route_compile.specs.Vips.{asked_entry}
use Rattle.route_compile.proofs.vips.push_asked_entries.Given as goal

-- those of the VIPs so far
abbrev pub invariant-loop-vip : goal.invariant-loop-vip
invariant-loop-vip l = l.out ≡ l.fn.out ++ map (asked_entry l.vlan) (take l.vip-index l.vips)
