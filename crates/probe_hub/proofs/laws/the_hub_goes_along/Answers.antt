use Rattle.probe_hub.proofs.Stepping.{hub_way}
use Rattle.probe_hub.proofs.laws.the_hub_goes_along.Goals as goal

pub returns : goal.returns
returns g c = λ from to steps way. hub_way g.H.Hub.may g.R.ReadsLinks.links_of from steps to way
