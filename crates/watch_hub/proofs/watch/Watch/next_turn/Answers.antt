use Rattle.std.proofs.Common.{refl}
use Rattle.fg_outside.specs.HubStep.{turned}
use Rattle.fg_outside.proofs.LineLemmas.{on_err}
use Rattle.watch_hub.specs.Watch.{nothing, in_vain, lost}
use Rattle.watch_hub.proofs.Going.{goes_by, goes_still, keeps_as, keeps_same, keeps_told}
use Rattle.watch_hub.proofs.watch.Watch.next_turn.Goals as goal

pub returns-in_err-tell-clause-along : goal.returns-in_err-tell-clause-along
returns-in_err-tell-clause-along g c =
    goes_still g.H.Hub.may g.F.Files.faults g.F.Files.absences c.args.self.now c.tell.new.self c.args.self.now.spent
    (keeps_as g.F.Files.faults g.F.Files.absences c.args.self.now.file c.tell.new.self c.in_err-tell.ensures.err)

pub returns-then-waits-clause-along : goal.returns-then-waits-clause-along
returns-then-waits-clause-along g c =
    goes_still g.H.Hub.may g.F.Files.faults g.F.Files.absences c.args.self.now c.tell.new.self c.args.self.now.spent
    (keeps_told g.F.Files.faults g.F.Files.absences c.args.self.now.file c.tell.new.self c.in_ok-tell.ensures.ok)

pub returns-in_err-take_in-in-Happened-clause-along :
    goal.returns-in_err-take_in-in-Happened-clause-along
returns-in_err-take_in-in-Happened-clause-along g c =
    goes_by g.H.Hub.may g.F.Files.faults g.F.Files.absences c.args.self.now c.turn.new.self c.take_in.new.self c.args.self.now.spent (turned c.turn.result) c.turn.ensures.step c.take_in.ensures.keeps

pub returns-in_ok-take_in-in-Happened-clause-along :
    goal.returns-in_ok-take_in-in-Happened-clause-along
returns-in_ok-take_in-in-Happened-clause-along g c =
    goes_by g.H.Hub.may g.F.Files.faults g.F.Files.absences c.args.self.now c.turn.new.self c.take_in.new.self c.args.self.now.spent (turned c.turn.result) c.turn.ensures.step c.take_in.ensures.keeps

pub returns-in-Done-clause-along : goal.returns-in-Done-clause-along
returns-in-Done-clause-along g c =
    goes_by g.H.Hub.may g.F.Files.faults g.F.Files.absences c.args.self.now c.turn.new.self c.args.self.now.file c.args.self.now.spent (turned c.turn.result) c.turn.ensures.step
    (keeps_same g.F.Files.faults g.F.Files.absences c.args.self.now.file)

pub returns-in-Failed-clause-along : goal.returns-in-Failed-clause-along
returns-in-Failed-clause-along g c =
    goes_by g.H.Hub.may g.F.Files.faults g.F.Files.absences c.args.self.now c.turn.new.self c.args.self.now.file c.args.self.now.spent (turned c.turn.result) c.turn.ensures.step
    (keeps_same g.F.Files.faults g.F.Files.absences c.args.self.now.file)

pub returns-in-Memory-clause-along : goal.returns-in-Memory-clause-along
returns-in-Memory-clause-along g c =
    goes_by g.H.Hub.may g.F.Files.faults g.F.Files.absences c.args.self.now c.turn.new.self c.args.self.now.file c.args.self.now.spent (turned c.turn.result) c.turn.ensures.step
    (keeps_same g.F.Files.faults g.F.Files.absences c.args.self.now.file)

pub returns-in_err-tell-clause-asked : goal.returns-in_err-tell-clause-asked
returns-in_err-tell-clause-asked g c = on_err _ (nothing refl)

pub returns-in_err-take_in-in-Happened-clause-asked :
    goal.returns-in_err-take_in-in-Happened-clause-asked
returns-in_err-take_in-in-Happened-clause-asked g c =
    on_err _ (lost c.in-Happened.it c.in-Happened.ensures.step)

pub returns-in-Memory-clause-asked : goal.returns-in-Memory-clause-asked
returns-in-Memory-clause-asked g c = in_vain c.in-Memory.ensures.step
