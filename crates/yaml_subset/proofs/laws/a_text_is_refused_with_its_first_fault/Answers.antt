use Rattle.yaml_subset.proofs.TextFaults.{one_fault, tree_or_its_fault}
use Rattle.yaml_subset.proofs.laws.a_text_is_refused_with_its_first_fault.Goals as goal

pub returns : goal.returns
returns c = record { one = one_fault; either = tree_or_its_fault }
