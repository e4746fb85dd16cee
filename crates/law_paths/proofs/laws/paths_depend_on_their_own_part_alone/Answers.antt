use Rattle.law_paths.proofs.Parts.{distances, hops, trees}
use Rattle.law_paths.proofs.laws.paths_depend_on_their_own_part_alone.Goals as goal

pub returns-clause-distance : goal.returns-clause-distance
returns-clause-distance c = λ is_in s t alike a b is. distances is_in s t alike a b is

pub returns-clause-hop : goal.returns-clause-hop
returns-clause-hop c = λ is_in s t alike a b is. hops is_in s t alike a b is

pub returns-clause-tree : goal.returns-clause-tree
returns-clause-tree c = λ is_in s t alike d p is. trees is_in s t alike d p is
