use Rattle.std.proofs.Common.{◌≡◌, take, filter}
use Rattle.conf_types.specs.State.{is_host_at}
use Rattle.vlan_compile.proofs.learned.hosts_at.Given as goal

-- the hosts so far that stand at the port
abbrev pub invariant-loop-host : goal.invariant-loop-host
invariant-loop-host l = l.here ≡ filter (is_host_at l.dp l.port) (take l.host-index l.hosts)
