use Rattle.std.specs.Prelude.{IsPermutation}
use Rattle.std.proofs.lemmas.List.Sorted.{IsPermutation-sym, Contains-permutation}
use Rattle.packet_way.specs.Description.{sends}
use Rattle.plan_units.specs.Units.{plan}
use Rattle.cold_start.specs.Cold.{cold}
use Rattle.law_plans.proofs.Runs.{sends_carried}
use Rattle.law_plans.proofs.cold.a_cold_start_sends_each_packet_as_described.Goals as goal

pub returns : goal.returns
returns c = λ conf now d setting port p fits shaped.
    let same = c.a_cold_start_is_the_plan_in_key_order.ensures.same conf now d setting in
    let sent = c.a_plan_sends_each_packet_as_described.ensures conf now d setting port p fits shaped in
    sends_carried (plan conf now d) (cold conf now d)
    (λ e here. Contains-permutation (plan conf now d) (cold conf now d) e same here)
    (λ e here. Contains-permutation (cold conf now d) (plan conf now d) e (IsPermutation-sym (plan conf now d) (cold conf now d) same) here)
    port 0 p (sends conf now d.id port p) sent
