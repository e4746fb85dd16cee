use Rattle.std.proofs.Common.{◌≡◌, ◌==◌, ◌++◌, filter}
use Rattle.conf_types.specs.Groups.{group_of}
use Rattle.warm_plan.proofs.units.hosts_in.Given as goal

-- those so far, and then those of the hosts that are left
abbrev pub invariant-loop-host : goal.invariant-loop-host
invariant-loop-host l = l.made ++ filter (λ h. (group_of l.conf h.dp).0 == l.group.0) l.host-iterator ≡ filter (λ h. (group_of l.conf h.dp).0 == l.group.0) l.hosts
