use Rattle.std.proofs.Common.{◌≡◌, ◌++◌, take}
use Rattle.neighbour_resolve.specs.Asks.{out_of}
use Rattle.neighbour_resolve.proofs.asks.put_out.Given as goal

abbrev pub invariant-loop-port : goal.invariant-loop-port
invariant-loop-port l = l.actions ≡ l.initial.actions ++ out_of (take l.port-index l.ports)
