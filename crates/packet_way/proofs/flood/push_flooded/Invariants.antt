use Rattle.std.proofs.Common.{◌≡◌, ◌++◌, take, filter}
use Rattle.std.specs.List.{flat_map}
use Rattle.packet_way.specs.Leaving.{delivered}
use Rattle.packet_way.specs.Flood.{gets_flood}
use Rattle.packet_way.proofs.flood.push_flooded.Given as goal

-- what is sent so far is that for the interfaces so far
abbrev pub invariant-loop-port : goal.invariant-loop-port
invariant-loop-port l = l.out ≡ l.fn.out ++ flat_map (delivered l.dp l.vlan.vid l.packet) (filter (gets_flood l.paths l.dp l.ingress l.vlan l.packet) (take l.port-index l.port-items))
