use Rattle.std.proofs.Common.{◌≡◌, None, length}
use Rattle.command_line.specs.Parts.{parted}
use Rattle.command_line.specs.Parting.{joined}
use Rattle.command_line.proofs.parts.part_words.Given as goal

-- the parts so far, with those of what is left, are those of all words
abbrev pub invariant-loop-left : goal.invariant-loop-left
invariant-loop-left l = joined l.parts (parted None l.left) ≡ parted None l.words

abbrev pub decreases-loop-left : goal.decreases-loop-left
decreases-loop-left l = length l.left
