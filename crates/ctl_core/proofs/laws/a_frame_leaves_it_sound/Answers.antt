use Rattle.ctl_core.proofs.SoundFrames.{heard_sound, read_sound}
use Rattle.ctl_core.proofs.laws.a_frame_leaves_it_sound.Goals as goal

pub returns : goal.returns
returns c = record { heard = heard_sound; read = read_sound }
