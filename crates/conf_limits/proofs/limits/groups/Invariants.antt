use Rattle.std.proofs.Common.{◌≡◌, ◌==◌, ◌+◌, ◌≤◌, drop}
use Rattle.std.specs.Prelude.{count_by}
use Rattle.conf_types.specs.Groups.{group_of, of_dps}
use Rattle.conf_limits.proofs.limits.groups.Given as goal

-- those from here on are still to be counted
abbrev pub invariant-loop-i : goal.invariant-loop-i
invariant-loop-i l =
    (l.count ≤ l.i)
    × (l.count + count_by (λ d. (group_of (of_dps l.dps) d.id).0 == d.id.0) (drop l.i l.dps) ≡ count_by (λ d. (group_of (of_dps l.dps) d.id).0 == d.id.0) l.dps)
