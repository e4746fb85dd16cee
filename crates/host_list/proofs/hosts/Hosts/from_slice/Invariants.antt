use Rattle.std.proofs.Common.{◌≡◌, take}
use Rattle.host_list.proofs.hosts.Hosts.from_slice.Given as goal

abbrev pub invariant-loop-host : goal.invariant-loop-host
invariant-loop-host l = l.hosts ≡ take l.host-index l.list
