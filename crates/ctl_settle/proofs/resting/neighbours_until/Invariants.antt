use Rattle.std.proofs.Common.{◌≡◌, take}
use Rattle.ctl_settle.specs.Rest.{neighbours_until}
use Rattle.ctl_settle.proofs.resting.neighbours_until.Given as goal

-- the least of the neighbours so far
abbrev pub invariant-loop-neighbour : goal.invariant-loop-neighbour
invariant-loop-neighbour l = l.least ≡ neighbours_until (take l.neighbour-index l.neighbours)
