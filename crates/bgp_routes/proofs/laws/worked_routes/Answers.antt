use Rattle.std.proofs.Common.{refl}
use Rattle.bgp_routes.proofs.laws.worked_routes.Goals as goal

pub returns-clause-announced : goal.returns-clause-announced
returns-clause-announced c fits = refl

pub returns-clause-again : goal.returns-clause-again
returns-clause-again c fits = refl

pub returns-clause-withdrawn : goal.returns-clause-withdrawn
returns-clause-withdrawn c fits = refl

pub returns-clause-looped : goal.returns-clause-looped
returns-clause-looped c fits = refl
