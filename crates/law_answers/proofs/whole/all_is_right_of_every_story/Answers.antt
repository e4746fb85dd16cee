use Rattle.law_answers.proofs.whole.all_is_right_of_every_story.Goals as goal

pub returns : goal.returns
returns c = λ conf story valid. record {
  right = c.whatever_happens_is_right.ensures conf story valid;
  valid = c.whatever_happens_what_is_known_is_sound.ensures.valid conf story valid;
  numbers = c.connections_stand_by_number.ensures.numbers conf story;
  keys = c.connections_stand_by_number.ensures.keys conf story;
  rests = c.after_each_turn_it_rests.ensures conf story;
  settled = c.each_settling_leaves_it_right.ensures conf story valid;
  batches = c.batches_are_said_exactly_where_they_are_due.ensures.settlings conf story valid;
  wipes = c.batches_are_said_exactly_where_they_are_due.ensures.outside conf story valid;
  lives = c.each_connection_lives_as_it_is_to.ensures conf story;
  configuration = c.what_is_known_is_told.ensures.configuration conf story;
  moment = c.what_is_known_is_told.ensures.moment conf story;
  opened = c.what_is_known_is_told.ensures.opened conf story;
  refuses = c.a_refused_reload_says_its_line_alone.ensures conf story;
  lines = c.lines_tell_what_ends_and_what_is_refused.ensures conf story;
  causes = c.each_closing_has_its_cause.ensures.turns conf story;
  by_frames = c.what_is_said_of_a_turn_is_said_by_its_frames.ensures conf story;
  since = c.what_is_said_of_tables_counts_from_the_opening.ensures conf story;
  since_settled = c.each_settling_counts_from_the_opening.ensures conf story;
  heard_hosts = c.whatever_is_heard_its_host_is_known.ensures conf story valid;
  hosts = c.whatever_happens_hosts_stay_where_they_stand.ensures conf story valid;
  kept_hosts = c.hosts_stay_over_a_reload_but_for_a_cause.ensures conf story valid;
  gone = c.a_reload_closes_exactly_what_is_gone.ensures conf story;
  same_hosts = c.all_hosts_stay_over_a_reload_of_the_same.ensures conf story valid;
  asks = c.each_ask_is_sent_once_and_nothing_else.ensures conf story valid;
  answers = c.each_answer_is_sent_once_and_nothing_else.ensures conf story valid;
}
