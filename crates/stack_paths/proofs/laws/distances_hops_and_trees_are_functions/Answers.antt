use Rattle.stack_paths.proofs.ChosenWalks.{distance_found, distance_here}
use Rattle.stack_paths.proofs.ChosenHops.{next_hop_found, next_hop_here, tree_port_found, tree_port_here}
use Rattle.stack_paths.proofs.laws.distances_hops_and_trees_are_functions.Goals as goal

pub returns-clause-distance : goal.returns-clause-distance
returns-clause-distance c = λ s is a b n. (distance_found s a b n, distance_here s is a b n)

pub returns-clause-hop : goal.returns-clause-hop
returns-clause-hop c = λ s is a b p. (next_hop_found s is a b p, next_hop_here s is a b p)

pub returns-clause-tree : goal.returns-clause-tree
returns-clause-tree c = λ s is d p. (tree_port_found s is d p, tree_port_here s is d p)
