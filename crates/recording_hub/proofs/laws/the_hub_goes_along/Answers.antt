use Rattle.recording_hub.proofs.Telling.{hub_way}
use Rattle.recording_hub.proofs.laws.the_hub_goes_along.Goals as goal

pub returns : goal.returns
returns g c = λ from to steps way. hub_way g.H.Hub.may g.H.Hub.faults g.S.Sink.wrote g.S.Sink.faults c.ways_join.ensures from steps to way
