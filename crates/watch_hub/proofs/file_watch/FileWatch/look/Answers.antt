use Rattle.std.proofs.Common.{refl}
use Rattle.watch_hub.proofs.Going.{keeps_found, looks_found}
use Rattle.watch_hub.proofs.file_watch.FileWatch.look.Goals as goal

pub returns-in_err-found-clause-keeps : goal.returns-in_err-found-clause-keeps
returns-in_err-found-clause-keeps g c = record {
  name = refl;
  every = refl;
  counted_faults = c.look_at.ensures.faults;
  counted_absences = c.look_at.ensures.absences;
}

pub returns-clause-ok : goal.returns-clause-ok
returns-clause-ok g c =
    looks_found g.F.Files.contents g.F.Files.faults g.F.Files.absences c.args.self.now c.take_text.new.self c.look_at.new.files c.args.moment c.in_ok-found.found c.take_text.ensures
    c.as_str.result.now c.as_str.ensures c.in_ok-found.ensures.finds c.in_ok-found.ensures.no_fault c.look_at.ensures.refreshed

pub returns-clause-keeps : goal.returns-clause-keeps
returns-clause-keeps g c =
    keeps_found g.F.Files.contents g.F.Files.faults g.F.Files.absences c.args.self.now c.take_text.new.self c.look_at.new.files c.args.moment c.in_ok-found.found c.take_text.ensures
    c.look_at.ensures.faults c.look_at.ensures.absences
