use Rattle.std.proofs.Common.{◌≡◌, ◌++◌, drop}
use Rattle.gauge_conf.specs.Resolved.{new_ones, once}
use Rattle.gauge_conf.proofs.names.once.Given as goal

-- what is left completes the list
abbrev pub invariant-loop-name : goal.invariant-loop-name
invariant-loop-name l = l.made ++ new_ones l.made (drop l.name-index l.names) ≡ once l.names
