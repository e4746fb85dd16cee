use Rattle.ctl_settle.proofs.Waiting.{settled_done, settled_ordered}
use Rattle.ctl_settle.proofs.laws.a_settling_leaves_nothing_waiting.Goals as goal

pub returns : goal.returns
returns c =
    let order = c.a_cold_start_is_the_plan_in_key_order.ensures.order in
    record {
      done = settled_done order c.equal_plans_have_no_difference.ensures c.datapaths_are_asked_in_order.ensures.same;
      numbers = λ w numbers keys. (settled_ordered order w numbers keys).0;
      keys = λ w numbers keys. (settled_ordered order w numbers keys).1;
    }
