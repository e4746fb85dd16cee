use Rattle.law_calls.proofs.HostLimits.{run_within}
use Rattle.law_calls.proofs.laws.no_call_passes_the_limit_of_a_table.Goals as goal

pub returns : goal.returns
returns c = λ from to calls few way. run_within from to calls few way
