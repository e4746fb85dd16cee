use Rattle.probe_hub.proofs.Spending.{tells_part}
use Rattle.probe_hub.proofs.laws.a_way_to_want_of_memory_is_probed.Goals as goal

pub returns : goal.returns
returns g c = λ from to steps running answered way. tells_part g.H.Hub.may g.R.ReadsLinks.links_of from running steps to way answered
