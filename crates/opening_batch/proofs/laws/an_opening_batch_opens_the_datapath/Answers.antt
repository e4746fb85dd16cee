use Rattle.opening_batch.proofs.Headline.{batch_opens}
use Rattle.opening_batch.proofs.laws.an_opening_batch_opens_the_datapath.Goals as goal

pub returns : goal.returns
returns c =
    let parts = c.parts_take_few_bytes.ensures in
    λ conf dp batch valid made. batch_opens parts.number parts.fields parts.in_a_match parts.accepted c.written_message_is_spelled.ensures.spelled
    c.each_entry_is_short.ensures c.a_cold_start_is_the_plan_in_key_order.ensures.same c.a_switch_accepts_each_entry.ensures
    c.a_switch_holds_the_cold_start.ensures c.a_cold_start_sends_each_packet_as_described.ensures conf valid dp batch made
