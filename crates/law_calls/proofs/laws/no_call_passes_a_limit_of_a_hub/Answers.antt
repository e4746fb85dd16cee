use Rattle.law_calls.proofs.HubLimits.{run_asks, run_few, waits_within}
use Rattle.law_calls.proofs.laws.no_call_passes_a_limit_of_a_hub.Goals as goal

pub returns-clause-waiting : goal.returns-clause-waiting
returns-clause-waiting g c = λ poller from to steps fresh way. waits_within g.P.L.Link g.P.Poller to

pub returns-clause-open : goal.returns-clause-open
returns-clause-open g c = λ poller from to steps fresh way. run_few g.P.L.Link g.P.Poller poller from fresh steps to way

pub returns-clause-asked : goal.returns-clause-asked
returns-clause-asked g c = λ from to steps way. run_asks g.P.L.Link g.P.Poller from steps to way
