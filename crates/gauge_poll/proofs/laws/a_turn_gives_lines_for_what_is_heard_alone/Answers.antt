use Rattle.std.proofs.Common.{refl}
use Rattle.gauge_poll.proofs.GivenLines.{closed_none, message_lines, opened_none, others_none, shut_none}
use Rattle.gauge_poll.proofs.laws.a_turn_gives_lines_for_what_is_heard_alone.Goals as goal

pub returns : goal.returns
returns c = record {
  opened = opened_none;
  closed = closed_none;
  shown = λ moment m. refl;
  reloaded = λ text m. refl;
  shut = shut_none;
  message = message_lines;
  no_message = λ number m. refl;
  others = others_none;
}
