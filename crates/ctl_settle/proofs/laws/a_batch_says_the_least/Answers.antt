use Rattle.ctl_settle.specs.Settling.{wanted}
use Rattle.ctl_settle.proofs.Waiting.{wanted_order}
use Rattle.ctl_settle.proofs.laws.a_batch_says_the_least.Goals as goal

pub returns : goal.returns
returns c =
    let order = wanted_order c.a_cold_start_is_the_plan_in_key_order.ensures.order in
    let each = c.each_command_of_a_difference_is_needed.ensures in
    record {
      ascending = λ w dp conn keys. each.ascending conn.sent (wanted w dp) keys (order w dp);
      needed = λ w dp conn keys. each.needed conn.sent (wanted w dp) keys (order w dp);
      none = λ w dp conn keys. c.equal_plans_have_no_difference.ensures conn.sent (wanted w dp) keys (order w dp);
      least = λ w dp conn keys commands named leads. c.a_difference_is_the_least_list.ensures conn.sent (wanted w dp) keys (order w dp) commands named leads;
    }
