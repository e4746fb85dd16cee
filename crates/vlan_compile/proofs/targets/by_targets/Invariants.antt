use Rattle.std.proofs.Common.{◌≡◌, take}
use Rattle.vlan_compile.specs.Targets.{by_targets}
use Rattle.vlan_compile.proofs.targets.by_targets.Given as goal

-- what is done by the ports so far
abbrev pub invariant-loop-target : goal.invariant-loop-target
invariant-loop-target l = l.actions ≡ by_targets l.flood l.from (take l.target-index l.targets)
