use Rattle.watch_hub.proofs.Spending.{counts_stand}
use Rattle.watch_hub.proofs.laws.the_counts_of_its_files_stand.Goals as goal

pub returns-clause-faults : goal.returns-clause-faults
returns-clause-faults g c = λ from to steps way. (counts_stand g.H.Hub.may g.F.Files.contents g.F.Files.faults g.F.Files.absences from steps to way).0

pub returns-clause-absences : goal.returns-clause-absences
returns-clause-absences g c = λ from to steps way. (counts_stand g.H.Hub.may g.F.Files.contents g.F.Files.faults g.F.Files.absences from steps to way).1
