use Rattle.neighbour_resolve.proofs.Schedule.{asked_on_and_on}
use Rattle.neighbour_resolve.proofs.laws.a_gateway_is_asked_on.Goals as goal

pub returns : goal.returns
returns c = λ conf n before answers after count first gateway long. asked_on_and_on conf n before answers after first count gateway long
