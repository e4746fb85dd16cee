use Rattle.yaml_subset.proofs.TextFaults.{text_told}
use Rattle.conf_gather.proofs.ReadLemmas.{tree_read, read_tree_of, fault_read}
use Rattle.conf_gather.proofs.laws.a_file_is_read_by_the_grammar.Goals as goal

pub returns : goal.returns
returns c = record { tree = tree_read; only_tree = read_tree_of; fault = fault_read; only_fault = text_told }
