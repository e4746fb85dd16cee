use Rattle.std.proofs.Common.{◌≡◌, ◌++◌, drop}
use Rattle.bgp_texts.specs.Items.{route_items}
use Rattle.bgp_texts.proofs.items.route_items.Given as goal

-- those of what is left complete the list
abbrev pub invariant-loop-route : goal.invariant-loop-route
invariant-loop-route l = l.items ++ route_items (drop l.route-index l.routes) ≡ route_items l.routes
