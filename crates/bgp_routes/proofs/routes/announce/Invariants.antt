use Rattle.std.proofs.Common.{◌≡◌, drop}
use Rattle.bgp_routes.specs.Updates.{announced_in}
use Rattle.bgp_routes.proofs.routes.announce.Given as goal

abbrev pub invariant-loop-net : goal.invariant-loop-net
invariant-loop-net l = announced_in l.gw l.routes.items (drop l.net-index l.nets) ≡ announced_in l.gw l.fn.routes.items l.nets
