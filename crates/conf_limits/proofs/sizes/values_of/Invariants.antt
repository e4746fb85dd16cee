use Rattle.std.proofs.Common.{◌≡◌, ◌++◌, drop}
use Rattle.conf_limits.specs.Sizes.{values_of}
use Rattle.conf_limits.proofs.sizes.values_of.Given as goal

-- what is left completes the list
abbrev pub invariant-loop-route : goal.invariant-loop-route
invariant-loop-route l = l.made.items ++ values_of l.width (drop l.route-index l.routes) ≡ values_of l.width l.routes
