use Rattle.std.proofs.Common.{◌≡◌, ◌==◌, ◌||◌, ◌<◌, ℕ, false, slice_index_or, take}
use Rattle.std.specs.List.{list_any}
use Rattle.conf_types.specs.Lists.{is_among}
use Rattle.conf_limits.specs.Joined.{places_at, has_at}
use Rattle.conf_limits.proofs.routed.Joined.routed_vids.Given as goal

-- those of the routers so far are listed, and flagged
abbrev pub invariant-loop-at : goal.invariant-loop-at
invariant-loop-at l =
    ((n : ℕ) → n < 4096 → slice_index_or l.seen n false ≡ is_among l.vids.items n)
    × ((n : ℕ) → is_among l.vids.items n ≡ (n == l.fn.vid || list_any (has_at l.self.conf.now.routers n) (take l.at-index (places_at l.self.places l.fn.vid))))
