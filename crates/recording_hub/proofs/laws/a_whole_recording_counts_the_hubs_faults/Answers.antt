use Rattle.recording_hub.proofs.Telling.{hub_counts}
use Rattle.recording_hub.proofs.laws.a_whole_recording_counts_the_hubs_faults.Goals as goal

pub returns : goal.returns
returns g c = λ from to steps begun way whole. hub_counts g.H.Hub.may g.H.Hub.faults g.S.Sink.wrote g.S.Sink.faults from to steps begun way whole
