use Rattle.std.proofs.Common.{◌≡◌, ◌++◌}
use Rattle.bgp_messages.specs.Paths.{numbers_in}
use Rattle.bgp_messages.proofs.path.add_numbers.Given as goal

abbrev pub invariant-loop-i : goal.invariant-loop-i
invariant-loop-i l = l.numbers ≡ l.fn.numbers ++ numbers_in l.i l.bytes
