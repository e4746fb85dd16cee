use Rattle.std.proofs.Common.{◌≡◌, ℕ, drop}
use Rattle.std.specs.BTreeSet.{contains}
use Rattle.std.specs.Ordering.{nat_cmp}
use Rattle.conf_types.specs.Lists.{is_among}
use Rattle.conf_resolve.specs.Resolved.{once}
use Rattle.conf_resolve.specs.Added.{with_numbers}
use Rattle.conf_resolve.proofs.numbers.vids_once.Given as goal

-- what is left completes the list, and those so far are seen
abbrev pub invariant-loop-vid : goal.invariant-loop-vid
invariant-loop-vid l =
    (with_numbers l.made (drop l.vid-index l.vids) ≡ once l.vids) × ((n : ℕ) → contains nat_cmp l.seen n ≡ is_among l.made n)
