use Rattle.std.proofs.Common.{◌≡◌, ◌||◌, ◌<◌, ℕ, false, slice_index_or, take}
use Rattle.conf_types.specs.Lists.{is_among}
use Rattle.conf_limits.proofs.routed.list_vids.Given as goal

-- those so far are listed, and flagged
abbrev pub invariant-loop-vid : goal.invariant-loop-vid
invariant-loop-vid l =
    ((n : ℕ) → n < 4096 → slice_index_or l.seen n false ≡ is_among l.vids.items n)
    × ((n : ℕ) → is_among l.vids.items n ≡ (is_among l.fn.vids.items n || is_among (take l.vid-index l.more) n))
