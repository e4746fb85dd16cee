use Rattle.fg_outside.proofs.StepLemmas.{KeepsFiles-fault}
use Rattle.fg_outside.proofs.laws.a_fault_is_one_of_the_files.Goals as goal

pub returns : goal.returns
returns g c = KeepsFiles-fault g.F.Files.contents g.F.Files.faults g.F.Files.absences g.F.Files.refused
