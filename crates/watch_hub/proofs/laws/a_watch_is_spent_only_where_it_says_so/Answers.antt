use Rattle.watch_hub.proofs.Spending.{stays_running}
use Rattle.watch_hub.proofs.laws.a_watch_is_spent_only_where_it_says_so.Goals as goal

pub returns : goal.returns
returns g c = λ from to steps running answered way. stays_running g.H.Hub.may g.F.Files.contents g.F.Files.faults g.F.Files.absences from running steps to way answered
