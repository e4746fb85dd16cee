use Rattle.fg_outside.proofs.StepLemmas.{KeepsFiles-then}
use Rattle.fg_outside.proofs.laws.files_kept_in_turn_are_kept.Goals as goal

pub returns : goal.returns
returns g c = KeepsFiles-then g.F.Files.contents g.F.Files.faults g.F.Files.absences g.F.Files.refused
