use Rattle.std.proofs.Common.{◌≡◌, ◌-◌, ◌≤◌, length, drop}
use Rattle.neighbour_resolve.specs.Discovery.{options_tell}
use Rattle.neighbour_resolve.proofs.Options.{and_before}
use Rattle.neighbour_resolve.proofs.discovery.options_tell.Given as goal

-- what is told of all is what was told so far, with what is told behind the place
abbrev pub invariant-loop-at : goal.invariant-loop-at
invariant-loop-at l = record {
  within : l.at ≤ length l.options;
  told : and_before l.asked l.mac.0 l.own (options_tell l.asked l.mac.0 (drop l.at l.options) 0) ≡ options_tell l.asked l.mac.0 l.options 0;
}

abbrev pub decreases-loop-at : goal.decreases-loop-at
decreases-loop-at l = length l.options - l.at
