use Rattle.neighbour_resolve.proofs.Asked.{neighbour_asked}
use Rattle.neighbour_resolve.proofs.laws.each_neighbour_can_be_asked_for.Goals as goal

pub returns : goal.returns
returns c = neighbour_asked
