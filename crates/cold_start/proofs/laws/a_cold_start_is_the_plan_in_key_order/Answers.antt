use Rattle.cold_start.proofs.Start.{cold_order, cold_same}
use Rattle.cold_start.proofs.laws.a_cold_start_is_the_plan_in_key_order.Goals as goal

pub returns-clause-order : goal.returns-clause-order
returns-clause-order c = λ conf now d. cold_order conf now d

pub returns-clause-same : goal.returns-clause-same
returns-clause-same c = λ conf now d setting. cold_same conf now d setting
