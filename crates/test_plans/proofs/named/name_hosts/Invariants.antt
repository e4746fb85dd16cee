use Rattle.std.proofs.Common.{◌≡◌, ◌++◌, map}
use Rattle.conf_types.specs.Groups.{group_of}
use Rattle.conf_types.specs.declared.change.Change.TheVariants as change
use Rattle.test_plans.proofs.named.name_hosts.Given as goal

-- those so far, and then those that are left
abbrev pub invariant-loop-host : goal.invariant-loop-host
invariant-loop-host l =
    l.out ++ map (λ h. change.Host (group_of l.conf h.dp) h.vid h.mac) l.host-iterator ≡ l.fn.out ++ map (λ h. change.Host (group_of l.conf h.dp) h.vid h.mac) l.hosts
