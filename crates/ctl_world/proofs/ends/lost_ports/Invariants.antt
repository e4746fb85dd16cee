use Rattle.std.proofs.Common.{◌≡◌}
use Rattle.std.specs.List.{fold}
use Rattle.ctl_world.specs.Lost.{lost_ports, with_lost}
use Rattle.ctl_world.proofs.ends.lost_ports.Given as goal

-- the ports so far and those of the hosts that are left are all of them
abbrev pub invariant-loop-host : goal.invariant-loop-host
invariant-loop-host l = fold (with_lost l.running l.ups) l.lost l.host-iterator ≡ lost_ports l.running l.ups l.hosts.hosts
