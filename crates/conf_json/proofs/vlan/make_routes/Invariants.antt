use Rattle.std.proofs.Common.{◌≡◌, take, map}
use Rattle.conf_json.specs.Text.{route_text}
use Rattle.conf_json.proofs.vlan.make_routes.Given as goal

-- the texts so far are those of the items so far
abbrev pub invariant-loop-route : goal.invariant-loop-route
invariant-loop-route l = l.made ≡ map route_text (take l.route-index l.routes)
