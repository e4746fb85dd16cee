use Rattle.std.proofs.Common.{true≢false, refl, sym}
use Rattle.std.proofs.Math.Bool.{or-true}
use Rattle.fg_outside.specs.declared.hub.Turn.TheVariants.{Memory}
use Rattle.fg_outside.specs.HubStep.{turned}
use Rattle.probe_hub.specs.ProbeHub.{nothing}
use Rattle.probe_hub.proofs.Going.{goes_still, spent_still, spent_turn}
use Rattle.probe_hub.proofs.probe_hub.ProbeHubHub.turn.Goals as goal

pub returns-then-self-clause-step : goal.returns-then-self-clause-step
returns-then-self-clause-step g c = record {
  does = record { spent = c.if-self.true; reader = refl; hub = nothing refl };
  along = goes_still g.H.Hub.may c.args.self.now c.args.self.now refl refl;
  running = λ r. r;
  spends = spent_still c.args.self.now.spent (turned Memory) c.if-self.true;
}

pub returns-in-Ok-clause-step : goal.returns-in-Ok-clause-step
returns-in-Ok-clause-step g c = record {
  does = c.in-Ok.ensures.does;
  along = c.in-Ok.ensures.along;
  running = λ r. c.if-self.false;
  spends = spent_turn g.H.Hub.may g.R.ReadsLinks.links_of c.args.self.now c.next_turn.new.self c.in-Ok.turn c.if-self.false c.in-Ok.ensures.spent c.in-Ok.ensures.does;
}

pub returns-in-Err-clause-step : goal.returns-in-Err-clause-step
returns-in-Err-clause-step g c =
    let along = c.in-Err.ensures.along in
    record {
      does = record { spent = refl; reader = along.reader; hub = c.in-Err.ensures.lost };
      along = record { way = along.way; leads = along.leads; reader = along.reader };
      running = λ r. absurd (true≢false r);
      spends = sym (or-true c.args.self.now.spent);
    }
