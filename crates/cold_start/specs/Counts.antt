-- By how much a count of units of work rises; it stays at its greatest value.
use Rattle.std.specs.Prelude.{ℕ, ◌+◌, ◌≤◌}
use Rattle.conf_types.specs.Count.{sum_up_to_greatest}

abbrev pub RisesAtMost : ℕ → ℕ → ℕ → Type 0
RisesAtMost most old new = new ≤ old + most

abbrev pub RisesAtLeast : ℕ → ℕ → ℕ → Type 0
RisesAtLeast least old new = sum_up_to_greatest old least ≤ new
