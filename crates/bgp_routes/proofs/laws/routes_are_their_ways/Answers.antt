use Rattle.bgp_routes.proofs.Told.{by_ways}
use Rattle.bgp_routes.proofs.laws.routes_are_their_ways.Goals as goal

pub returns : goal.returns
returns c = by_ways
