use Rattle.bgp_routes.proofs.Named.{announced_way, withdrawn_way, other_way}
use Rattle.bgp_routes.proofs.laws.an_update_says_the_ways.Goals as goal

pub returns-clause-announced : goal.returns-clause-announced
returns-clause-announced c = announced_way

pub returns-clause-withdrawn : goal.returns-clause-withdrawn
returns-clause-withdrawn c = withdrawn_way

pub returns-clause-others : goal.returns-clause-others
returns-clause-others c = other_way
