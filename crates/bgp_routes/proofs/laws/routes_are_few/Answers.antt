use Rattle.bgp_routes.proofs.Ascending.{are_few, end_empties}
use Rattle.bgp_routes.proofs.laws.routes_are_few.Goals as goal

pub returns-clause-few : goal.returns-clause-few
returns-clause-few c = are_few

pub returns-clause-ended : goal.returns-clause-ended
returns-clause-ended c = end_empties
