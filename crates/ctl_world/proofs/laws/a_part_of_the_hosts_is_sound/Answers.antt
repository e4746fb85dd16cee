use Rattle.ctl_world.proofs.SoundEnds.{part_sound}
use Rattle.ctl_world.proofs.laws.a_part_of_the_hosts_is_sound.Goals as goal

pub returns : goal.returns
returns c = part_sound
