use Rattle.stack_paths.proofs.LawLemmas.{tree_port_pair}
use Rattle.stack_paths.proofs.laws.tree_ports_come_in_pairs.Goals as goal

pub returns : goal.returns
returns c = tree_port_pair
