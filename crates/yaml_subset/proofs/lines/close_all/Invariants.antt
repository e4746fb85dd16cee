use Rattle.std.proofs.Common.{◌≡◌, length}
use Rattle.yaml_subset.specs.Blocks.{close_all}
use Rattle.yaml_subset.proofs.lines.close_all.Given as goal

abbrev pub invariant-loop-frame : goal.invariant-loop-frame
invariant-loop-frame l = close_all l.stack l.value ≡ close_all l.initial.stack l.initial.value

abbrev pub decreases-loop-frame : goal.decreases-loop-frame
decreases-loop-frame l = length l.stack
