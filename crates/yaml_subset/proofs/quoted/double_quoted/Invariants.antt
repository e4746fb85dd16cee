use Rattle.std.proofs.Common.{◌≡◌, [], length}
use Rattle.yaml_subset.specs.declared.quoted.Escape.TheVariants.{Outside}
use Rattle.yaml_subset.specs.Quoted.{double_from}
use Rattle.yaml_subset.proofs.quoted.double_quoted.Given as goal

abbrev pub invariant-loop-rest : goal.invariant-loop-rest
invariant-loop-rest l = double_from l.escape l.out l.rest ≡ double_from Outside [] l.text

abbrev pub decreases-loop-rest : goal.decreases-loop-rest
decreases-loop-rest l = length l.rest
