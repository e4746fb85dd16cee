use Rattle.std.proofs.Common.{◌≡◌, ◌++◌, map, drop}
use Rattle.conf_resolve.specs.Resolved.{dp_of}
use Rattle.conf_resolve.proofs.ports.resolve_dps.Given as goal

-- what is left completes the list
abbrev pub invariant-loop-dp : goal.invariant-loop-dp
invariant-loop-dp l = l.made ++ map (dp_of l.conf) (drop l.dp-index l.conf.dps) ≡ map (dp_of l.conf) l.conf.dps
