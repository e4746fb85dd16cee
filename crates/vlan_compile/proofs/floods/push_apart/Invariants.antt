use Rattle.std.proofs.Common.{◌≡◌, ◌++◌, take, filter, map}
use Rattle.vlan_compile.specs.declared.flood.Ingress.TheVariants.{At}
use Rattle.vlan_compile.specs.Floods.{is_apart}
use Rattle.vlan_compile.specs.Targets.{target_entry}
use Rattle.vlan_compile.proofs.floods.push_apart.Given as goal

-- the entries so far are those of the ports so far
abbrev pub invariant-loop-port : goal.invariant-loop-port
invariant-loop-port l = l.made ≡ l.fn.made ++ map (λ i. target_entry l.vlan l.flood (At i.no) l.found) (filter (is_apart l.dp l.vlan) (take l.port-index l.port-items))
