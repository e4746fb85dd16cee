use Rattle.std.proofs.Common.{◌≡◌, ◌+◌, drop}
use Rattle.bgp_routes.specs.Sets.{place}
use Rattle.bgp_routes.proofs.set.place_of.Given as goal

abbrev pub invariant-loop-i : goal.invariant-loop-i
invariant-loop-i l = l.i + place l.net (drop l.i l.routes) ≡ place l.net l.routes
