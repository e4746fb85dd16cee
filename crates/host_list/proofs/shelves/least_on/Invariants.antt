use Rattle.std.proofs.Common.{◌≡◌}
use Rattle.host_list.specs.Shelves.{last_moment, least_on}
use Rattle.host_list.proofs.shelves.least_on.Given as goal

abbrev pub invariant-loop-host : goal.invariant-loop-host
invariant-loop-host l =
    (goal.iterator-loop-host).can_next l.host-iterator ×
    (goal.iterator-loop-host).is_finite l.host-iterator ×
    (least_on l.dp l.least l.host-iterator ≡ least_on l.dp last_moment l.hosts.entries)
