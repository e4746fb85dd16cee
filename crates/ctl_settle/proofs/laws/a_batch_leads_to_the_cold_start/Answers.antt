use Rattle.ctl_settle.specs.Settling.{wanted}
use Rattle.ctl_settle.proofs.Waiting.{wanted_order}
use Rattle.ctl_settle.proofs.laws.a_batch_leads_to_the_cold_start.Goals as goal

pub returns : goal.returns
returns c =
    let order = wanted_order c.a_cold_start_is_the_plan_in_key_order.ensures.order in
    λ w dp conn settled keys. c.a_difference_leads_from_one_plan_to_the_other.ensures conn.sent (wanted w dp) settled keys (order w dp)
