use Rattle.std.proofs.Common.{◌≡◌, ◌<◌, ℕ, drop, slice_index}
use Rattle.std.specs.List.{slice_get}
use Rattle.conf_types.specs.Routing.{router_with}
use Rattle.conf_limits.proofs.numbered.routers_of.Given as goal

-- those from here on have their places
abbrev pub invariant-loop-i : goal.invariant-loop-i
invariant-loop-i l = (n : ℕ) → n < 4096 → slice_get l.routers (slice_index l.places n) ≡ router_with (drop l.i l.routers) n
