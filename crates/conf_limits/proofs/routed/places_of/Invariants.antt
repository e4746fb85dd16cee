use Rattle.std.proofs.Common.{take}
use Rattle.conf_limits.specs.Joined.{LeadToRouters}
use Rattle.conf_limits.proofs.routed.places_of.Given as goal

-- the routers so far
abbrev pub invariant-loop-i : goal.invariant-loop-i
invariant-loop-i l = LeadToRouters l.places l.routers (take l.i l.routers)
