use Rattle.std.proofs.Common.{refl, sym}
use Rattle.std.proofs.Math.Bool.{or-false}
use Rattle.fg_outside.specs.HubStep.{closed}
use Rattle.watch_hub.proofs.Going.{goes_by, keeps_same}
use Rattle.watch_hub.proofs.watch.WatchHub.close.Goals as goal

pub returns-clause-step : goal.returns-clause-step
returns-clause-step g c = record {
  does = record { hub = c.close.ensures.step; went = refl };
  along =
      goes_by g.H.Hub.may g.F.Files.faults g.F.Files.absences c.args.self.now c.close.new.self c.args.self.now.file c.args.self.now.spent (closed c.args.conn) c.close.ensures.step
      (keeps_same g.F.Files.faults g.F.Files.absences c.args.self.now.file);
  running = λ r. r;
  spends = sym (or-false c.args.self.now.spent);
}
