use Rattle.probe_hub.proofs.Stepping.{stays_running}
use Rattle.probe_hub.proofs.laws.it_is_spent_only_where_it_says_so.Goals as goal

pub returns : goal.returns
returns g c = λ from to steps running answered way. stays_running g.H.Hub.may g.R.ReadsLinks.links_of from running steps to way answered
