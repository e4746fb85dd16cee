use Rattle.conf_limits.proofs.MetRoutes.{route_more}
use Rattle.conf_limits.proofs.met_routes.meet_route.Goals as goal

pub returns : goal.returns
returns c = route_more c.args.met.now c.insert.new.self c.destination_of.result c.args.vid c.args.route.now c.destination_of.ensures c.in_ok-insert.ensures.updates
