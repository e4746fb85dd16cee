use Rattle.std.proofs.Common.{◌≡◌, ◌||◌, ◌<◌, ℕ, false, slice_index_or, take}
use Rattle.conf_types.specs.Lists.{is_among}
use Rattle.conf_rules.proofs.vids.see_all.Given as goal

-- those so far are seen
abbrev pub invariant-loop-vid : goal.invariant-loop-vid
invariant-loop-vid l = (n : ℕ) → n < 4096 → slice_index_or l.seen n false ≡ (slice_index_or l.fn.seen n false || is_among (take l.vid-index l.vids) n)
