use Rattle.ctl_settle.proofs.Sound.{all_sound}
use Rattle.ctl_settle.proofs.laws.asks_leave_the_state.Goals as goal

pub returns : goal.returns
returns c = all_sound c.what_is_said_leaves_it_sound.ensures.say c.what_is_left_is_valid.ensures.due
