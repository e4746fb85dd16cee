use Rattle.std.proofs.Common.{◌≡◌, ◌&&◌, take, filter, map}
use Rattle.vlan_compile.specs.declared.flood.Flood.TheVariants.{Group}
use Rattle.vlan_compile.specs.Floods.{is_flooded}
use Rattle.vlan_compile.specs.Targets.{target, is_on_side}
use Rattle.vlan_compile.proofs.targets.targets_on.Given as goal

-- the ports so far that get floods on this side
abbrev pub invariant-loop-port : goal.invariant-loop-port
invariant-loop-port l = l.made ≡ map (target l.paths l.dp l.vlan) (filter (λ q. is_flooded l.paths l.dp l.vlan Group q && is_on_side l.native l.vlan.vid q) (take l.port-index l.port-items))
