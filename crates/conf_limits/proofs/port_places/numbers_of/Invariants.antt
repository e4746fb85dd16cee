use Rattle.std.proofs.Common.{◌≡◌, ◌==◌, ℕ, drop}
use Rattle.conf_types.specs.Lists.{is_among}
use Rattle.conf_limits.specs.PortPlaces.{at_number, stands_at}
use Rattle.conf_limits.proofs.port_places.numbers_of.Given as goal

-- those from here on are there
abbrev pub invariant-loop-i : goal.invariant-loop-i
invariant-loop-i l = (n at : ℕ) → is_among (at_number l.numbers n) at ≡ stands_at l.i (drop l.i l.ports) (λ p. p.no == n) at
