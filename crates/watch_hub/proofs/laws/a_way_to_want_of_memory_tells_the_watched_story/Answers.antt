use Rattle.watch_hub.proofs.Losing.{tells_part}
use Rattle.watch_hub.proofs.laws.a_way_to_want_of_memory_tells_the_watched_story.Goals as goal

pub returns : goal.returns
returns g c = λ from to steps idle running answered way.
    tells_part g.H.Hub.may g.F.Files.contents g.F.Files.faults g.F.Files.absences c.stories_join.ensures from idle running steps to way answered
