use Rattle.std.proofs.Common.{◌≡◌, ◌≤◌, length}
use Rattle.yaml_subset.specs.Characters.{skip}
use Rattle.yaml_subset.proofs.characters.skip_spaces.Given as goal

abbrev pub invariant-loop-rest : goal.invariant-loop-rest
invariant-loop-rest l = (skip l.rest ≡ skip l.text) × (length l.rest ≤ length l.text)

abbrev pub decreases-loop-rest : goal.decreases-loop-rest
decreases-loop-rest l = length l.rest
