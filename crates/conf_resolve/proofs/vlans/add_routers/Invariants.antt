use Rattle.std.proofs.Common.{◌≡◌, drop}
use Rattle.conf_resolve.specs.InOrder.{named_by_routers}
use Rattle.conf_resolve.specs.Added.{with_each}
use Rattle.conf_resolve.proofs.vlans.add_routers.Given as goal

-- what is left completes the list
abbrev pub invariant-loop-router : goal.invariant-loop-router
invariant-loop-router l = with_each l.vlans (named_by_routers (drop l.router-index l.routers)) ≡ with_each l.fn.vlans (named_by_routers l.routers)
