use Rattle.ctl_world.proofs.SoundEnds.{close_sound, ended_sound, forget_sound}
use Rattle.ctl_world.proofs.laws.forgetting_what_is_lost_makes_it_sound.Goals as goal

pub returns : goal.returns
returns c = record {
  forget = forget_sound;
  close = close_sound;
  ended = ended_sound;
}
