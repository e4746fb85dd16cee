use Rattle.std.proofs.Common.{refl}
use Rattle.fg_outside.specs.declared.hub.Turn.TheVariants.{Memory}
use Rattle.fg_outside.specs.HubStep.{turned}
use Rattle.watch_hub.specs.Watch.{nothing}
use Rattle.watch_hub.proofs.Going.{goes_still, keeps_same, spent_still, spent_turn}
use Rattle.watch_hub.proofs.watch.WatchHub.turn.Goals as goal

pub returns-then-self-clause-step : goal.returns-then-self-clause-step
returns-then-self-clause-step g c = record {
  does = record { spent = c.if-self.true; hub = nothing refl };
  along =
      goes_still g.H.Hub.may g.F.Files.faults g.F.Files.absences c.args.self.now c.args.self.now.file c.args.self.now.spent
      (keeps_same g.F.Files.faults g.F.Files.absences c.args.self.now.file);
  running = λ r. r;
  spends = spent_still c.args.self.now.spent (turned Memory) c.if-self.true;
}

pub returns-in-Ok-clause-step : goal.returns-in-Ok-clause-step
returns-in-Ok-clause-step g c = record {
  does = c.in-Ok.ensures.does;
  along = c.in-Ok.ensures.along;
  running = λ r. c.if-self.false;
  spends = spent_turn g.H.Hub.may g.F.Files.contents g.F.Files.faults g.F.Files.absences c.args.self.now c.next_turn.new.self c.in-Ok.turn c.if-self.false c.in-Ok.ensures.spent c.in-Ok.ensures.does;
}
