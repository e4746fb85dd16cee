use Rattle.std.proofs.Common.{◌≡◌, [], false, length}
use Rattle.yaml_subset.specs.Quoted.{single_from}
use Rattle.yaml_subset.proofs.quoted.single_quoted.Given as goal

abbrev pub invariant-loop-rest : goal.invariant-loop-rest
invariant-loop-rest l = single_from l.seen l.out l.rest ≡ single_from false [] l.text

abbrev pub decreases-loop-rest : goal.decreases-loop-rest
decreases-loop-rest l = length l.rest
