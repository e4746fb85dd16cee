use Rattle.std.proofs.Common.{◌≡◌, drop}
use Rattle.bgp_routes.specs.Updates.{withdrawn_from}
use Rattle.bgp_routes.proofs.routes.withdraw.Given as goal

abbrev pub invariant-loop-net : goal.invariant-loop-net
invariant-loop-net l = withdrawn_from l.routes.items (drop l.net-index l.nets) ≡ withdrawn_from l.fn.routes.items l.nets
