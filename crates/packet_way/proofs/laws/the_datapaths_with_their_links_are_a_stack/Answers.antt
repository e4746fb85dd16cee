use Rattle.packet_way.proofs.Stacked.{is_stack}
use Rattle.packet_way.proofs.laws.the_datapaths_with_their_links_are_a_stack.Goals as goal

pub returns : goal.returns
returns c = λ conf ups valid. is_stack conf valid ups
