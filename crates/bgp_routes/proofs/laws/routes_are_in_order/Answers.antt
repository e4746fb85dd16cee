use Rattle.bgp_routes.proofs.Ascending.{are_ascending}
use Rattle.bgp_routes.proofs.Told.{lead_to_networks}
use Rattle.bgp_routes.proofs.laws.routes_are_in_order.Goals as goal

pub returns-clause-order : goal.returns-clause-order
returns-clause-order c = are_ascending

pub returns-clause-networks : goal.returns-clause-networks
returns-clause-networks c = lead_to_networks
