use Rattle.probe_hub.proofs.Stepping.{tells_way}
use Rattle.probe_hub.proofs.laws.a_way_is_probed.Goals as goal

pub returns : goal.returns
returns g c = λ from to steps running way. tells_way g.H.Hub.may g.R.ReadsLinks.links_of from steps to way running
