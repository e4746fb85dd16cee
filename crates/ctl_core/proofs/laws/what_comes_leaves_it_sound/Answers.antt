use Rattle.ctl_core.proofs.SoundTurns.{feed_sound, open_sound}
use Rattle.ctl_core.proofs.laws.what_comes_leaves_it_sound.Goals as goal

pub returns : goal.returns
returns c = record { opened = open_sound; fed = feed_sound }
