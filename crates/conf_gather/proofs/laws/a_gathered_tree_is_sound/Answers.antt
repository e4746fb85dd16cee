use Rattle.conf_gather.proofs.SoundLemmas.{gathered_sound}
use Rattle.conf_gather.proofs.laws.a_gathered_tree_is_sound.Goals as goal

pub returns : goal.returns
returns c = gathered_sound
