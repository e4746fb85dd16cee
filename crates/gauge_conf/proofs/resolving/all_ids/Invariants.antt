use Rattle.std.proofs.Common.{◌≡◌, ◌++◌, map, drop}
use Rattle.gauge_conf.proofs.resolving.all_ids.Given as goal

-- what is left completes the list
abbrev pub invariant-loop-dp : goal.invariant-loop-dp
invariant-loop-dp l = l.ids ++ map (λ d. d.id) (drop l.dp-index l.dps) ≡ map (λ d. d.id) l.dps
