use Rattle.std.proofs.Common.{inl, inr, refl, arith, true≢false}
use Rattle.fg_outside.specs.HubStep.{closed}
use Rattle.recording_hub.proofs.Going.{counts_same, goes_by, rests_still}
use Rattle.recording_hub.proofs.recording_hub.RecordingHubHub.close.Goals as goal

pub returns-then-self-clause-step : goal.returns-then-self-clause-step
returns-then-self-clause-step g c = record {
  does = inr (record { hub = c.close.ensures.step; rests = rests_still g.S.Sink.wrote c.args.self.now.recorder; spent = c.if-self.true });
  along = goes_by g.H.Hub.may c.args.self.now _ (closed c.args.conn) c.close.new.self refl c.close.ensures.step;
  running = λ r. r;
  counts = counts_same g.H.Hub.faults g.S.Sink.faults c.args.self.now _ (closed c.args.conn) c.close.ensures.faults refl (omega arith);
}

pub returns-in-Ok-clause-step : goal.returns-in-Ok-clause-step
returns-in-Ok-clause-step g c = record {
  does = inl (record { ran = c.if-self.false; hub = c.close.ensures.step; noted = c.in-Ok.ensures.ok });
  along = goes_by g.H.Hub.may c.args.self.now _ (closed c.args.conn) c.close.new.self refl c.close.ensures.step;
  running = λ r. r;
  counts = counts_same g.H.Hub.faults g.S.Sink.faults c.args.self.now _ (closed c.args.conn) c.close.ensures.faults refl c.note_closing.ensures.faults;
}

pub returns-in-Err-clause-step : goal.returns-in-Err-clause-step
returns-in-Err-clause-step g c = record {
  does = inr (record { hub = c.close.ensures.step; rests = c.in-Err.ensures.err; spent = refl });
  along = goes_by g.H.Hub.may c.args.self.now _ (closed c.args.conn) c.close.new.self refl c.close.ensures.step;
  running = λ r. absurd (true≢false r);
  counts = counts_same g.H.Hub.faults g.S.Sink.faults c.args.self.now _ (closed c.args.conn) c.close.ensures.faults refl c.note_closing.ensures.faults;
}
