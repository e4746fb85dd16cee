use Rattle.ctl_world.proofs.SoundKept.{kept_sound}
use Rattle.ctl_world.proofs.laws.a_state_of_a_new_configuration.Goals as goal

pub returns : goal.returns
returns c = record { kept = λ next w valid sound. kept_sound next w sound valid }
