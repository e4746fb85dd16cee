use Rattle.std.proofs.Common.{◌≡◌, ◌++◌, drop}
use Rattle.std.specs.Option.{option_map}
use Rattle.ctl_core.specs.Behind.{hosts_left}
use Rattle.ctl_core.proofs.before.push_hosts.Given as goal

-- those that are left complete the whole
abbrev pub invariant-loop-host : goal.invariant-loop-host
invariant-loop-host l =
    option_map (λ named. named ++ hosts_left l.conf l.before.0 l.moment.0 (drop l.host-index l.from) l.hosts.hosts) l.touched
    ≡ option_map (λ named. named ++ hosts_left l.conf l.before.0 l.moment.0 l.from l.hosts.hosts) l.fn.touched
