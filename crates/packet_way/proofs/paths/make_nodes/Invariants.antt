use Rattle.std.proofs.Common.{◌≡◌, map, take}
use Rattle.packet_way.specs.Known.{node_of}
use Rattle.packet_way.proofs.paths.make_nodes.Given as goal

-- those of the datapaths so far
abbrev pub invariant-loop-dp : goal.invariant-loop-dp
invariant-loop-dp l = l.nodes ≡ map node_of (take l.dp-index l.dps)
