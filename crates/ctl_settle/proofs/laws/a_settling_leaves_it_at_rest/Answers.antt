use Rattle.ctl_settle.proofs.Settled.{settled_in_order, settled_rests}
use Rattle.ctl_settle.proofs.laws.a_settling_leaves_it_at_rest.Goals as goal

pub returns : goal.returns
returns c =
    let fewer = c.a_settling_ends.ensures.fewer in
    let order = c.a_cold_start_is_the_plan_in_key_order.ensures.order in
    let equal = c.equal_plans_have_no_difference.ensures in
    let same = c.datapaths_are_asked_in_order.ensures.same in
    record { rests = settled_rests fewer order equal same; in_order = settled_in_order fewer order equal same }
