use Rattle.std.proofs.Common.{length, ◌-◌, ◌≡◌, ◌≤◌, take}
use Rattle.fg_outside.specs.Wrote.{appended}
use Rattle.fg_outside.proofs.sink.write_all.Given as goal

abbrev pub invariant-loop-done : goal.invariant-loop-done
invariant-loop-done g l =
    (l.done ≤ length l.piece)
    × (g.S.Sink.wrote l.sink ≡ appended (g.S.Sink.wrote l.initial.sink) (take l.done l.piece))
    × (g.S.Sink.faults l.sink ≡ g.S.Sink.faults l.initial.sink)

abbrev pub decreases-loop-done : goal.decreases-loop-done
decreases-loop-done g l = length l.piece - l.done
