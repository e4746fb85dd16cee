use Rattle.std.proofs.Common.{refl}
use Rattle.bgp_messages.specs.Numbers.{number}
use Rattle.bgp_messages.proofs.laws.worked_messages.Goals as goal

pub returns-clause-opening : goal.returns-clause-opening
unfolding number
returns-clause-opening c = refl

pub returns-clause-refusal : goal.returns-clause-refusal
unfolding number
returns-clause-refusal c = refl
