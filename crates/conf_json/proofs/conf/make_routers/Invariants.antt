use Rattle.std.proofs.Common.{◌≡◌, [], take, fold, map}
use Rattle.conf_json.specs.Json.{with_member}
use Rattle.conf_json.specs.Text.{router_member}
use Rattle.conf_json.proofs.conf.make_routers.Given as goal

-- the members so far are those of the items so far
abbrev pub invariant-loop-router : goal.invariant-loop-router
invariant-loop-router l = l.made ≡ fold with_member [] (map router_member (take l.router-index l.routers))
