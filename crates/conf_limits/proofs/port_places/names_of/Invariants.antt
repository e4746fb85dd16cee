use Rattle.std.proofs.Common.{◌≡◌, ℕ, List, drop}
use Rattle.conf_types.specs.Lists.{is_among, is_same}
use Rattle.conf_limits.specs.PortPlaces.{at_name, stands_at}
use Rattle.conf_limits.proofs.port_places.names_of.Given as goal

-- those from here on are there
abbrev pub invariant-loop-i : goal.invariant-loop-i
invariant-loop-i l = (t : List ℕ) (at : ℕ) → is_among (at_name l.names t) at ≡ stands_at l.i (drop l.i l.ports) (λ p. is_same p.name t) at
