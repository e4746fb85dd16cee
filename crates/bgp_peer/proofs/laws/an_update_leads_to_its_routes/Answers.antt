use Rattle.bgp_peer.proofs.Whole.{update_routes, update_silent}
use Rattle.bgp_peer.proofs.laws.an_update_leads_to_its_routes.Goals as goal

pub returns-clause-routes : goal.returns-clause-routes
returns-clause-routes c = update_routes

pub returns-clause-silent : goal.returns-clause-silent
returns-clause-silent c = update_silent
