use Rattle.std.proofs.Common.{◌≡◌, length}
use Rattle.command_line.specs.Parts.{have_distinct_names}
use Rattle.command_line.proofs.parts.have_distinct_names.Given as goal

-- no name so far stands twice
abbrev pub invariant-loop-left : goal.invariant-loop-left
invariant-loop-left l = have_distinct_names l.left ≡ have_distinct_names l.options

abbrev pub decreases-loop-left : goal.decreases-loop-left
decreases-loop-left l = length l.left
