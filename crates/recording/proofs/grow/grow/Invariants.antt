use Rattle.std.proofs.Common.{◌≡◌, ◌-◌, ◌≤◌, length}
use Rattle.fg_outside.specs.Left.{prepended}
use Rattle.fg_outside.specs.Steps.{Went}
use Rattle.recording.proofs.grow.grow.Given as goal

abbrev pub invariant-loop-source : goal.invariant-loop-source
invariant-loop-source g l = record {
  took : prepended l.initial.bytes (g.S.Source.left l.initial.source) ≡ prepended l.bytes (g.S.Source.left l.source);
  most : length l.bytes ≤ l.most;
  faults : g.S.Source.faults l.source ≡ g.S.Source.faults l.initial.source;
  step : Went g.S.Source.may l.initial.source l.source;
}

abbrev pub decreases-loop-source : goal.decreases-loop-source
decreases-loop-source g l = l.most - length l.bytes
