use Rattle.std.proofs.Common.{length}
use Rattle.ctl_core.proofs.gateways.+want_routes.Given as goal

abbrev pub decreases-want_routes : goal.decreases-want_routes
decreases-want_routes l = length l.routes.now
