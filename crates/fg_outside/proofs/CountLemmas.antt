-- Counts that rise.
use Rattle.std.proofs.Common.{ℕ, ◌≤◌, arith}
use Rattle.fg_outside.specs.Counts.{Rose}

-- what rose before has risen later
pub Rose-later : (before mid now : ℕ) → Rose before mid → mid ≤ now → Rose before now
Rose-later before mid now rose le = omega (arith, rose, le)

-- what rose since has risen from before
pub Rose-since : (before mid now : ℕ) → before ≤ mid → Rose mid now → Rose before now
Rose-since before mid now le rose = omega (arith, rose, le)

-- counts over calls in turn, as `using(fg_outside::proofs::CountLemmas::counts)` takes them
pub ruleset counts = (Rose-later, Rose-since)
