use Rattle.std.proofs.Common.{◌≡◌, ◌++◌, take}
use Rattle.std.specs.List.{flat_map}
use Rattle.of_wire.specs.Parts.{number}
use Rattle.of13_codec.proofs.ports.put_counters.Given as goal

abbrev pub invariant-loop-counter : goal.invariant-loop-counter
invariant-loop-counter l = l.out ≡ l.fn.out ++ flat_map (number 8) (take l.counter-index l.counters)
