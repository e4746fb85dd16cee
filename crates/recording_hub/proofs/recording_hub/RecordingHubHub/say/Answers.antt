use Rattle.std.proofs.Common.{◌+◌, refl, sym, ◌∙◌, ap, arith, true≢false}
use Rattle.std.proofs.lemmas.Grind.{common_steps}
use Rattle.fg_outside.specs.declared.hub.Said.TheVariants.{Memory}
use Rattle.fg_outside.specs.HubStep.{said}
use Rattle.recording_hub.proofs.Going.{counts_same, goes_still, says}
use Rattle.recording_hub.proofs.recording_hub.RecordingHubHub.say.Goals as goal

pub returns-then-self-clause-step : goal.returns-then-self-clause-step
returns-then-self-clause-step g c = record {
  does = record {
    hub = λ running. absurd (true≢false (sym c.if-self.true ∙ running));
    no_hub = λ spent. refl;
    recorder = refl;
    spent = c.if-self.true;
  };
  along = goes_still g.H.Hub.may c.args.self.now c.args.self.now refl;
  running = λ r. r;
  counts = counts_same g.H.Hub.faults g.S.Sink.faults c.args.self.now c.args.self.now (said c.args.conn c.args.piece.now Memory) refl refl (omega arith);
}

pub returns-clause-step : goal.returns-clause-step
returns-clause-step g c =
    says g.H.Hub.may g.H.Hub.faults g.S.Sink.wrote g.S.Sink.faults c.args.self.now c.say-answer.new.self c.args.conn c.args.piece.now c.say-answer.result _ c.if-self.false (grind (arith, common_steps)) c.say-answer.ensures.step c.say-answer.ensures.faults

pub returns-clause-faults : goal.returns-clause-faults
returns-clause-faults g c = ap (λ n. n + c.args.self.now.failures) c.say-answer.ensures.faults
