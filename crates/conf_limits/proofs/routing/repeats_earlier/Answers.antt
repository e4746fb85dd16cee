use Rattle.std.proofs.Common.{◌∙◌}
use Rattle.conf_limits.proofs.MetRoutes.{met_before}
use Rattle.conf_limits.proofs.routing.repeats_earlier.Goals as goal

pub returns : goal.returns
returns c =
    c.has_route_of.ensures
    ∙ met_before c.args.met.now c.args.conf.now c.args.vids.now c.args.earlier.now c.args.vlan.now.vid c.args.routes.now c.args.route.now c.requires.met c.requires.vids
