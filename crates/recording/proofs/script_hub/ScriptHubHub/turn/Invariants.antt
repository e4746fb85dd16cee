use Rattle.std.proofs.Common.{◌≡◌, ◌-◌, ◌^◌, false, []}
use Rattle.fg_outside.specs.Steps.{Went}
use Rattle.recording.specs.Script.{source_in, Keeps}
use Rattle.recording.proofs.script_hub.ScriptHubHub.turn.Given as goal

abbrev pub invariant-loop-turn : goal.invariant-loop-turn
invariant-loop-turn g l = record {
  keeps : Keeps g.S.Source.left l.initial.self [] l.self;
  running : l.self.spent ≡ false;
  faults : g.S.Source.faults (source_in l.self) ≡ g.S.Source.faults (source_in l.initial.self);
  source : Went g.S.Source.may (source_in l.initial.self) (source_in l.self);
}

abbrev pub decreases-loop-turn : goal.decreases-loop-turn
decreases-loop-turn g l = 2 ^ 64 - l.self.reader.count
