use Rattle.std.proofs.Common.{◌≡◌, ◌||◌, ℕ, take}
use Rattle.std.specs.List.{list_any}
use Rattle.conf_types.specs.Attached.{is_named}
use Rattle.conf_types.specs.Lists.{is_among}
use Rattle.conf_limits.specs.PortPlaces.{stands_at}
use Rattle.conf_limits.proofs.port_places.PortPlaces.add_places.Given as goal

-- those so far are added
abbrev pub invariant-loop-name : goal.invariant-loop-name
invariant-loop-name l =
    (at : ℕ) → is_among l.places.items at ≡ (is_among l.fn.places.items at || list_any (λ name. stands_at 0 l.self.dp.now.ports (is_named name) at) (take l.name-index l.names))
