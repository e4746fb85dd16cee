use Rattle.std.proofs.Common.{◌≡◌, ℕ, ◌<◌, false, slice_index_or, drop, take, []}
use Rattle.conf_rules.specs.Places.{first, with_earlier}
use Rattle.conf_rules.specs.Routing.{is_in_router, shared_of_router}
use Rattle.std.specs.List.{flat_map, list_any, zip}
use Rattle.conf_limits.proofs.routing.shared_vlans.Given as goal

-- none so far breaks the rule, and the VLANs of the routers so far are seen
abbrev pub invariant-loop-i : goal.invariant-loop-i
invariant-loop-i l =
    (first (flat_map (shared_of_router l.ordered) (zip (drop l.i l.ordered.routers) (with_earlier (take l.i l.conf.routers) (drop l.i l.conf.routers)))) ≡ first (flat_map (shared_of_router l.ordered) (zip l.ordered.routers (with_earlier [] l.conf.routers))))
    × ((n : ℕ) → n < 4096 → slice_index_or l.routed n false ≡ list_any (is_in_router n) (take l.i l.conf.routers))
