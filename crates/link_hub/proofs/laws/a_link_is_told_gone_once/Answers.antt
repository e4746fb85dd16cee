use Rattle.link_hub.proofs.GoneLemmas.{run_tells}
use Rattle.link_hub.proofs.laws.a_link_is_told_gone_once.Goals as goal

pub returns : goal.returns
returns g c = λ poller from to steps fresh way. run_tells g.P.L.Link g.P.Poller from poller to steps fresh way
