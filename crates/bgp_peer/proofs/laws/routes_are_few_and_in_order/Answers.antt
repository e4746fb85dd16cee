use Rattle.bgp_peer.proofs.Behind.{few, in_order, networks}
use Rattle.bgp_peer.proofs.laws.routes_are_few_and_in_order.Goals as goal

pub returns-clause-few : goal.returns-clause-few
returns-clause-few c = few

pub returns-clause-order : goal.returns-clause-order
returns-clause-order c = in_order

pub returns-clause-networks : goal.returns-clause-networks
returns-clause-networks c = networks
