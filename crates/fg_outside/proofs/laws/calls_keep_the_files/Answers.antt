use Rattle.fg_outside.specs.FileSource.{KeepsFiles}
use Rattle.fg_outside.proofs.StepLemmas.{Went-all, KeepsFiles-same, KeepsFiles-then}
use Rattle.fg_outside.proofs.laws.calls_keep_the_files.Goals as goal

pub returns : goal.returns
returns g c =
    let held = g.F.Files.contents in
    let faults = g.F.Files.faults in
    let absences = g.F.Files.absences in
    let refused = g.F.Files.refused in
    Went-all _ (KeepsFiles held faults absences refused) (KeepsFiles-same held faults absences refused) (KeepsFiles-then held faults absences refused) (λ _ _ keeps. keeps)
