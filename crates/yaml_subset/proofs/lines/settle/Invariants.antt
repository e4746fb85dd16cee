use Rattle.std.proofs.Common.{◌≡◌, length}
use Rattle.yaml_subset.specs.Blocks.{settle}
use Rattle.yaml_subset.proofs.lines.settle.Given as goal

abbrev pub invariant-loop-frame : goal.invariant-loop-frame
invariant-loop-frame l = settle l.indent l.item l.stack l.value ≡ settle l.indent l.item l.initial.stack l.initial.value

abbrev pub decreases-loop-frame : goal.decreases-loop-frame
decreases-loop-frame l = length l.stack
