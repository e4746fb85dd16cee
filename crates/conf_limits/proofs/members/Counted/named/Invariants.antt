use Rattle.std.proofs.Common.{◌≡◌, ◌||◌, ◌<◌, ℕ, false, count_by, slice_index_or, take}
use Rattle.conf_types.specs.Lists.{is_among}
use Rattle.conf_types.specs.Membership.{is_native_in}
use Rattle.conf_limits.proofs.members.Counted.named.Given as goal

-- the VLANs named so far are flagged and counted
abbrev pub invariant-loop-vid : goal.invariant-loop-vid
invariant-loop-vid l =
    ((n : ℕ) → n < 4096 → slice_index_or l.seen n false ≡ (is_native_in l.port n || is_among (take l.vid-index l.port.tagged) n))
    × (l.count ≡ count_by (λ v. is_native_in l.port v.vid || is_among (take l.vid-index l.port.tagged) v.vid) l.self.vlans.now)
