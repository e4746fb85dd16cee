use Rattle.std.proofs.Common.{◌≡◌, ◌||◌, ◌&&◌, ℕ, Bool, take}
use Rattle.std.specs.List.{list_any}
use Rattle.conf_types.specs.Lists.{is_among}
use Rattle.conf_limits.specs.Joined.{places_at}
use Rattle.conf_limits.proofs.routed.add_router.Given as goal

-- those so far lead to the place too
abbrev pub invariant-loop-vid : goal.invariant-loop-vid
invariant-loop-vid l = (p : ℕ → Bool) (n : ℕ) → list_any p (places_at l.places n) ≡ (list_any p (places_at l.fn.places n) || (is_among (take l.vid-index l.vids) n && p l.at))
