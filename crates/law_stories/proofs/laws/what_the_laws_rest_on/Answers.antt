use Rattle.law_stories.proofs.laws.what_the_laws_rest_on.Goals as goal

pub returns : goal.returns
returns c = record {
  numbers = c.a_settling_leaves_nothing_waiting.ensures.numbers;
  keys = c.a_settling_leaves_nothing_waiting.ensures.keys;
  rests = c.a_settling_leaves_it_at_rest.ensures.rests;
  first = c.what_is_known_first_is_sound.ensures;
  asks = c.asks_leave_the_state.ensures;
  batch = c.a_batch_leaves_the_state.ensures;
  valid = c.an_accepted_configuration_is_valid.ensures;
  order = c.a_cold_start_is_the_plan_in_key_order.ensures.order;
  leads = c.a_batch_leads_to_the_cold_start.ensures;
  same = c.datapaths_are_asked_in_order.ensures.same;
}
