use Rattle.ctl_world.proofs.SoundChanges.{change_sound, moment_sound, put_sound}
use Rattle.ctl_world.proofs.laws.such_changes_leave_it_sound.Goals as goal

pub returns : goal.returns
returns c = record {
  change = λ number w f dp stage ports. change_sound f dp stage ports number w;
  put = put_sound;
  moment = moment_sound;
}
