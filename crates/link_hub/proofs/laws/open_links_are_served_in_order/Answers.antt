use Rattle.link_hub.proofs.RunLemmas.{run_served}
use Rattle.link_hub.proofs.laws.open_links_are_served_in_order.Goals as goal

pub returns : goal.returns
returns g c = λ poller from to steps fresh way conn live is. run_served g.P.L.Link g.P.Poller poller from to steps fresh way conn live is
