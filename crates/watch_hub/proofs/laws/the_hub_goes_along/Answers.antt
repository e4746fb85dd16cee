use Rattle.watch_hub.proofs.Stepping.{hub_way}
use Rattle.watch_hub.proofs.laws.the_hub_goes_along.Goals as goal

pub returns : goal.returns
returns g c = λ from to steps way. hub_way g.H.Hub.may g.F.Files.contents g.F.Files.faults g.F.Files.absences c.ways_join.ensures from steps to way
