use Rattle.watch_hub.proofs.Calls.{tells_calls}
use Rattle.watch_hub.proofs.laws.what_holds_of_its_calls_holds_of_its_hubs.Goals as goal

pub returns : goal.returns
returns g c = λ holds from to steps idle running all way.
    tells_calls g.H.Hub.may g.F.Files.contents g.F.Files.faults g.F.Files.absences c.stories_join.ensures holds from to steps idle running all way
