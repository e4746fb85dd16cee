use Rattle.ctl_settle.proofs.Given.{all_given, all_named}
use Rattle.ctl_settle.proofs.laws.what_asks_touch_was_known.Goals as goal

pub returns : goal.returns
returns c = record {
  lost = all_given c.what_is_said_leaves_it_sound.ensures.say c.what_is_left_is_valid.ensures.due;
  named = all_named c.what_is_said_leaves_it_sound.ensures.say c.what_is_left_is_valid.ensures.due;
}
