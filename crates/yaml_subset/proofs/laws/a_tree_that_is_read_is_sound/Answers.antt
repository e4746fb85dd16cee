use Rattle.yaml_subset.proofs.SoundBlocks.{text_sound}
use Rattle.yaml_subset.proofs.laws.a_tree_that_is_read_is_sound.Goals as goal

pub returns : goal.returns
returns c = λ text t r. let w = text_sound 32 text t r in (w.sound, w.nested)
