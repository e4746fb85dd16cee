use Rattle.std.proofs.Common.{true≢false, refl, sym, ◌∙◌}
use Rattle.std.proofs.Math.Bool.{or-true}
use Rattle.fg_outside.specs.declared.hub.Said.TheVariants.{Memory}
use Rattle.fg_outside.specs.HubStep.{said}
use Rattle.probe_hub.proofs.Going.{does_say, goes_by, goes_still, loses_still, spent_say, spent_still}
use Rattle.probe_hub.proofs.probe_hub.ProbeHubHub.say.Goals as goal

pub returns-then-self-clause-step : goal.returns-then-self-clause-step
returns-then-self-clause-step g c = record {
  does = loses_still g.H.Hub.may c.args.conn c.args.piece.now c.args.self.now c.if-self.true;
  along = goes_still g.H.Hub.may c.args.self.now c.args.self.now refl refl;
  running = λ r. r;
  spends = spent_still c.args.self.now.spent (said c.args.conn c.args.piece.now Memory) c.if-self.true;
}

pub returns-in-Memory-clause-step : goal.returns-in-Memory-clause-step
returns-in-Memory-clause-step g c = record {
  does = record {
    hub = λ running. c.in-Memory.ensures.step;
    no_hub = λ spent. absurd (true≢false (sym spent ∙ c.if-self.false));
    went = refl;
  };
  along = goes_by g.H.Hub.may c.args.self.now _ (said c.args.conn c.args.piece.now c.say.result) c.say.ensures.step refl;
  running = λ r. absurd (true≢false r);
  spends = sym (or-true c.args.self.now.spent);
}

pub returns-in_default : goal.returns-in_default
returns-in_default g c = record {
  step = record {
    does = does_say g.H.Hub.may g.R.ReadsLinks.links_of c.args.self.now _ c.args.conn c.args.piece.now c.say.result c.in_default.not-Memory (record { hub = c.say.ensures.step; known = c.note.ensures; reader = refl });
    along = goes_by g.H.Hub.may c.args.self.now _ (said c.args.conn c.args.piece.now c.say.result) c.say.ensures.step refl;
    running = λ r. r;
    spends = spent_say c.args.self.now.spent c.args.conn c.args.piece.now c.say.result c.in_default.not-Memory;
  };
  gone = c.say.ensures.gone;
  taken = c.say.ensures.taken;
  faults = c.say.ensures.faults;
}
