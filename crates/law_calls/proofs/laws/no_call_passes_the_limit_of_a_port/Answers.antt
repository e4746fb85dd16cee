use Rattle.std.proofs.Common.{refl}
use Rattle.law_calls.proofs.HostValid.{run_valid}
use Rattle.law_calls.proofs.laws.no_call_passes_the_limit_of_a_port.Goals as goal

pub returns : goal.returns
returns c = λ conf state from to calls valid within was way. run_valid conf state from.limit valid within from to calls refl was way
