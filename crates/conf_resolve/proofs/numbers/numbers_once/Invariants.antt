use Rattle.std.proofs.Common.{◌≡◌, ℕ, drop}
use Rattle.std.specs.BTreeSet.{contains}
use Rattle.std.specs.Ordering.{nat_cmp}
use Rattle.conf_types.specs.Lists.{is_among}
use Rattle.conf_resolve.specs.Resolved.{once}
use Rattle.conf_resolve.specs.Added.{with_numbers}
use Rattle.conf_resolve.proofs.numbers.numbers_once.Given as goal

-- what is left completes the list, and those so far are seen
abbrev pub invariant-loop-number : goal.invariant-loop-number
invariant-loop-number l =
    (with_numbers l.made (drop l.number-index l.numbers) ≡ once l.numbers) × ((n : ℕ) → contains nat_cmp l.seen n ≡ is_among l.made n)
