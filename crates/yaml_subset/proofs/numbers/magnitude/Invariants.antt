use Rattle.std.proofs.Common.{◌≡◌, length}
use Rattle.yaml_subset.specs.Numbers.{magnitude}
use Rattle.yaml_subset.proofs.numbers.magnitude.Given as goal

abbrev pub invariant-loop-rest : goal.invariant-loop-rest
invariant-loop-rest l = magnitude l.base l.m l.rest ≡ magnitude l.base 0 l.digits

abbrev pub decreases-loop-rest : goal.decreases-loop-rest
decreases-loop-rest l = length l.rest
