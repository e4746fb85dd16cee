use Rattle.ctl_settle.proofs.Sound.{batch_sound}
use Rattle.ctl_settle.proofs.laws.a_batch_leaves_the_state.Goals as goal

pub returns : goal.returns
returns c = batch_sound c.what_is_said_leaves_it_sound.ensures.say c.what_is_said_leaves_it_sound.ensures.ask c.such_changes_leave_it_sound.ensures.change
