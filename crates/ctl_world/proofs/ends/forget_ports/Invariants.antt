use Rattle.std.proofs.Common.{◌≡◌, drop, filter, not}
use Rattle.ctl_world.specs.Lost.{is_at_any}
use Rattle.ctl_world.proofs.ends.forget_ports.Given as goal

-- what is left without the ports to come is what is left without all of them
abbrev pub invariant-loop-port : goal.invariant-loop-port
invariant-loop-port l =
    record l.hosts { hosts = filter (λ h. not (is_at_any (drop l.port-index l.ports) h)) l.hosts.hosts } ≡ record l.initial.hosts { hosts = filter (λ h. not (is_at_any l.ports h)) l.initial.hosts.hosts }
