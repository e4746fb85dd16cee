use Rattle.recording_hub.proofs.Telling.{recorded_way}
use Rattle.recording_hub.proofs.laws.a_way_is_recorded.Goals as goal

pub returns : goal.returns
returns g c = λ from to steps begun way.
    recorded_way g.H.Hub.may g.H.Hub.faults g.S.Sink.wrote g.S.Sink.faults c.stories_join.ensures from begun steps to way
