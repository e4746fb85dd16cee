use Rattle.watch_hub.proofs.Stepping.{tells_way}
use Rattle.watch_hub.proofs.laws.a_way_tells_the_watched_story.Goals as goal

pub returns : goal.returns
returns g c = λ from to steps idle running way.
    tells_way g.H.Hub.may g.F.Files.contents g.F.Files.faults g.F.Files.absences c.stories_join.ensures from idle steps to way running
