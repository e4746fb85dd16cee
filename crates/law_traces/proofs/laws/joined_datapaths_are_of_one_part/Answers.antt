use Rattle.packet_way.proofs.Stacked.{is_stack}
use Rattle.packet_way.specs.Known.{stack_of}
use Rattle.law_traces.proofs.Joined.{joined_by_walk, walk_between}
use Rattle.law_traces.proofs.laws.joined_datapaths_are_of_one_part.Goals as goal

pub returns : goal.returns
returns c = λ conf ups from to valid node. (
  walk_between (stack_of conf ups) (is_stack conf valid ups) from to node,
  joined_by_walk (stack_of conf ups) (is_stack conf valid ups) from to node,
)
