use Rattle.conf_gather.proofs.IncludeKeys.{no_include_key}
use Rattle.conf_gather.proofs.laws.a_gathered_tree_has_no_include_key.Goals as goal

pub returns : goal.returns
returns c = no_include_key
