use Rattle.ctl_core.proofs.SoundReloads.{reload_sound}
use Rattle.ctl_core.proofs.laws.a_reload_leaves_it_sound.Goals as goal

pub returns : goal.returns
returns c = reload_sound c.an_accepted_configuration_is_valid.ensures
