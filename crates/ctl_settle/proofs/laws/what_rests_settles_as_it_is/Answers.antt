use Rattle.ctl_settle.proofs.Settled.{settles_as_it_is}
use Rattle.ctl_settle.proofs.laws.what_rests_settles_as_it_is.Goals as goal

pub returns : goal.returns
returns c = settles_as_it_is c.a_cold_start_is_the_plan_in_key_order.ensures.order c.equal_plans_have_no_difference.ensures c.datapaths_are_asked_in_order.ensures.same
