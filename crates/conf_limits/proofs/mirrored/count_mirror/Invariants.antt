use Rattle.std.proofs.Common.{◌≡◌, ◌+◌, ℕ, take, if◌then◌else◌}
use Rattle.conf_types.specs.Lists.{is_among}
use Rattle.conf_limits.specs.Mirrors.{times}
use Rattle.conf_rules.specs.Seen.{HasNumbers}
use Rattle.conf_limits.proofs.mirrored.count_mirror.Given as goal

-- the numbers so far are seen, and each is counted once
abbrev pub invariant-loop-no : goal.invariant-loop-no
invariant-loop-no l =
    HasNumbers l.seen (λ n. n) (take l.no-index l.port.mirror)
    × ((n : ℕ) → times l.counts n ≡ times l.fn.counts n + (if is_among (take l.no-index l.port.mirror) n then 1 else 0))
