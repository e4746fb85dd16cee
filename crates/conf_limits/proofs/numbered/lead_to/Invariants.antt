use Rattle.std.proofs.Common.{◌≡◌, ◌<◌, ℕ, length, slice_index, take, if◌then◌else◌}
use Rattle.conf_types.specs.Lists.{is_among}
use Rattle.conf_limits.proofs.numbered.lead_to.Given as goal

-- those so far lead to the place
abbrev pub invariant-loop-vid : goal.invariant-loop-vid
invariant-loop-vid l =
    (length l.places ≡ 4096)
    × ((n : ℕ) → n < 4096 → slice_index l.places n ≡ (if is_among (take l.vid-index l.vids) n then l.at else slice_index l.fn.places n))
