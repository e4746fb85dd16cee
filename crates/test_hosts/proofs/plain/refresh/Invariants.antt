use Rattle.std.proofs.Common.{◌≡◌, ◌++◌, take, drop}
use Rattle.host_learn.specs.Learning.{refreshed}
use Rattle.test_hosts.proofs.plain.refresh.Given as goal

abbrev pub invariant-loop-host : goal.invariant-loop-host
invariant-loop-host l = l.hosts ≡ refreshed l.heard (take l.host-index l.initial.hosts) ++ drop l.host-index l.initial.hosts
