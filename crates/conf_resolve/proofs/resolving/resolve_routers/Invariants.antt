use Rattle.std.proofs.Common.{◌≡◌, ◌++◌, map, drop}
use Rattle.conf_resolve.specs.Resolved.{router_of}
use Rattle.conf_resolve.proofs.resolving.resolve_routers.Given as goal

-- what is left completes the list
abbrev pub invariant-loop-router : goal.invariant-loop-router
invariant-loop-router l = l.made ++ map (router_of l.conf) (drop l.router-index l.routers) ≡ map (router_of l.conf) l.routers
