use Rattle.ctl_settle.proofs.Taking.{are_ready, batch_brought}
use Rattle.ctl_settle.proofs.Waiting.{batch_case, case_ordered, case_running}
use Rattle.ctl_settle.specs.Settling.{batch}
use Rattle.ctl_settle.proofs.laws.a_batch_keeps_the_plans.Goals as goal

pub returns : goal.returns
returns c =
    let order = c.a_cold_start_is_the_plan_in_key_order.ensures.order in
    let equal = c.equal_plans_have_no_difference.ensures in
    record {
      ready = λ dp w held ordered brought runs. are_ready order equal dp w held ordered brought runs;
      brought = λ dp w held ordered brought runs. batch_brought order equal dp w held ordered brought runs;
      in_order = λ dp w ordered. let both = case_ordered order w (batch dp w) (batch_case order dp w) (ordered.numbers, ordered.keys) in record { numbers = both.0; keys = both.1 };
      running = λ dp w. case_running order w (batch dp w) (batch_case order dp w);
    }
