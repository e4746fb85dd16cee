use Rattle.std.proofs.Common.{◌≡◌, ◌++◌, take, drop}
use Rattle.probe_hub.specs.Marks.{replaced}
use Rattle.probe_hub.proofs.marks.replace.Given as goal

abbrev pub invariant-loop-mark : goal.invariant-loop-mark
invariant-loop-mark l = l.marks ≡ replaced l.to (take l.mark-index l.initial.marks) ++ drop l.mark-index l.initial.marks
