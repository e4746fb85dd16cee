use Rattle.std.proofs.Common.{◌≡◌, length}
use Rattle.yaml_subset.specs.Plain.{plain_from}
use Rattle.yaml_subset.proofs.plain.plain_span.Given as goal

abbrev pub invariant-loop-rest : goal.invariant-loop-rest
invariant-loop-rest l = plain_from l.flow l.end l.rest ≡ plain_from l.flow l.text l.text

abbrev pub decreases-loop-rest : goal.decreases-loop-rest
decreases-loop-rest l = length l.rest
