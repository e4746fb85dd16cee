use Rattle.bgp_routes.proofs.Ways.{set_way, taken_out}
use Rattle.bgp_routes.proofs.laws.a_route_is_set_and_taken_out.Goals as goal

pub returns-clause-set : goal.returns-clause-set
returns-clause-set c = set_way

pub returns-clause-out : goal.returns-clause-out
returns-clause-out c = taken_out
