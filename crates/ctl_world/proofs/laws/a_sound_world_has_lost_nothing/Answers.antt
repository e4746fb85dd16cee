use Rattle.ctl_world.proofs.SoundEnds.{nothing_lost}
use Rattle.ctl_world.proofs.laws.a_sound_world_has_lost_nothing.Goals as goal

pub returns : goal.returns
returns c = nothing_lost
