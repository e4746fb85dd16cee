use Rattle.law_trees.proofs.Reached.{flood_once, flood_elsewhere, flood_ends}
use Rattle.law_trees.proofs.laws.a_flood_comes_once_to_each_datapath_of_its_part.Goals as goal

pub returns-clause-once : goal.returns-clause-once
returns-clause-once c = flood_once

pub returns-clause-elsewhere : goal.returns-clause-elsewhere
returns-clause-elsewhere c = flood_elsewhere

pub returns-clause-ends : goal.returns-clause-ends
returns-clause-ends c = flood_ends
