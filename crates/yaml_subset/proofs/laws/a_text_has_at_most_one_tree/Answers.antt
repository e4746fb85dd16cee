use Rattle.yaml_subset.proofs.GrammarLaws.{one_tree}
use Rattle.yaml_subset.proofs.laws.a_text_has_at_most_one_tree.Goals as goal

pub returns : goal.returns
returns c = one_tree
