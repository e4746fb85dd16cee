use Rattle.ctl_core.proofs.SoundTurns.{pass_sound}
use Rattle.ctl_core.proofs.laws.a_moment_leaves_it_sound.Goals as goal

pub returns : goal.returns
returns c = pass_sound
