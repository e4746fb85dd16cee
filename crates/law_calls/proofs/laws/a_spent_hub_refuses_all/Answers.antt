use Rattle.law_calls.proofs.HubCauses.{all_refused}
use Rattle.law_calls.proofs.laws.a_spent_hub_refuses_all.Goals as goal

pub returns : goal.returns
returns g c = λ old mid to step steps lacks may way. all_refused g.P.L.Link g.P.Poller old step mid steps to lacks may way
