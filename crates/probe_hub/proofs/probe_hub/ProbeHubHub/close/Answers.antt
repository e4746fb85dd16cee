use Rattle.std.proofs.Common.{refl, sym}
use Rattle.std.proofs.Math.Bool.{or-false}
use Rattle.fg_outside.specs.HubStep.{closed}
use Rattle.probe_hub.proofs.Going.{goes_by}
use Rattle.probe_hub.proofs.probe_hub.ProbeHubHub.close.Goals as goal

pub returns-clause-step : goal.returns-clause-step
returns-clause-step g c = record {
  does = record { hub = c.close.ensures.step; known = c.end.ensures; reader = refl };
  along = goes_by g.H.Hub.may c.args.self.now _ (closed c.args.conn) c.close.ensures.step refl;
  running = λ r. r;
  spends = sym (or-false c.args.self.now.spent);
}
