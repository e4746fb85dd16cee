use Rattle.std.proofs.Common.{refl, true≢false, arith}
use Rattle.fg_outside.specs.declared.hub.Turn.TheVariants.{Memory}
use Rattle.fg_outside.specs.HubStep.{turned}
use Rattle.recording_hub.specs.RecordingHub.{nothing}
use Rattle.recording_hub.proofs.Going.{counts_same, goes_still, rests_still, spent_counts}
use Rattle.recording_hub.proofs.recording_hub.RecordingHubHub.turn.Goals as goal

pub returns-then-self-clause-step : goal.returns-then-self-clause-step
returns-then-self-clause-step g c = record {
  does = record { hub = nothing refl; rests = rests_still g.S.Sink.wrote c.args.self.now.recorder; spent = c.if-self.true };
  along = goes_still g.H.Hub.may c.args.self.now c.args.self.now refl;
  running = λ r. r;
  counts = counts_same g.H.Hub.faults g.S.Sink.faults c.args.self.now c.args.self.now (turned Memory) refl refl (omega arith);
}

pub returns-in-Ok-clause-step : goal.returns-in-Ok-clause-step
returns-in-Ok-clause-step g c = record {
  does = c.in-Ok.ensures.does;
  along = c.in-Ok.ensures.along;
  running = λ r. c.if-self.false;
  counts = c.in-Ok.ensures.counts;
}

pub returns-in-Err-clause-step : goal.returns-in-Err-clause-step
returns-in-Err-clause-step g c = record {
  does = record { hub = c.in-Err.ensures.asked; rests = c.in-Err.ensures.rests; spent = refl };
  along = record { way = c.in-Err.ensures.along.way; leads = c.in-Err.ensures.along.leads };
  running = λ r. absurd (true≢false r);
  counts = spent_counts g.H.Hub.faults g.S.Sink.faults c.args.self.now c.next_turn.new.self (turned Memory) c.in-Err.ensures.memory;
}
