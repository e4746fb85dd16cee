use Rattle.yaml_subset.proofs.BlockLevels.{text_within}
use Rattle.yaml_subset.proofs.SoundBlocks.{text_sound}
use Rattle.yaml_subset.proofs.laws.levels_bound_how_deep_a_tree_is.Goals as goal

pub returns : goal.returns
returns c = record { deep = λ n text t r. (text_sound n text t r).nested; within = text_within }
