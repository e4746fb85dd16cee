use Rattle.fg_outside.proofs.StepLemmas.{KeepsFiles-same}
use Rattle.fg_outside.proofs.laws.an_uncalled_source_keeps_its_files.Goals as goal

pub returns : goal.returns
returns g c = KeepsFiles-same g.F.Files.contents g.F.Files.faults g.F.Files.absences g.F.Files.refused
