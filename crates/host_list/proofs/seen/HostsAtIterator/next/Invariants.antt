use Rattle.std.proofs.Common.{◌≡◌, length}
use Rattle.host_list.specs.Hosts.{hosts_at}
use Rattle.host_list.proofs.seen.HostsAtIterator.next.Given as goal

abbrev pub invariant-loop-host : goal.invariant-loop-host
invariant-loop-host l = hosts_at l.self-inside.rest l.self-inside.dp l.self-inside.port ≡ l.fn.self

abbrev pub decreases-loop-host : goal.decreases-loop-host
decreases-loop-host l = length l.self-inside.rest
