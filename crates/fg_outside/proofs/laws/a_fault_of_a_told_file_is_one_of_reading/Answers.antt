use Rattle.fg_outside.proofs.StepLemmas.{KeepsFiles-read}
use Rattle.fg_outside.proofs.laws.a_fault_of_a_told_file_is_one_of_reading.Goals as goal

pub returns : goal.returns
returns g c = KeepsFiles-read g.F.Files.contents g.F.Files.faults g.F.Files.absences g.F.Files.refused
