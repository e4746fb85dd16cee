use Rattle.std.proofs.Common.{◌≡◌, min}
use Rattle.std.specs.List.{fold}
use Rattle.ctl_settle.specs.Rest.{host_until, hosts_until}
use Rattle.ctl_settle.proofs.resting.hosts_until.Given as goal

-- the least so far and those of the hosts that are left
abbrev pub invariant-loop-host : goal.invariant-loop-host
invariant-loop-host l = fold (λ least h. min least (host_until l.world.conf l.world.moment.0 h)) l.least l.host-iterator ≡ hosts_until l.world.conf l.world.moment.0 l.world.hosts.hosts
