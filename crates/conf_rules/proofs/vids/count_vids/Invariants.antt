use Rattle.std.proofs.Common.{◌≡◌, ◌==◌, ◌<◌, ℕ, count_by, slice_index, take, length}
use Rattle.conf_rules.proofs.vids.count_vids.Given as goal

-- those so far are counted
abbrev pub invariant-loop-vlan : goal.invariant-loop-vlan
invariant-loop-vlan l =
    (length l.counts ≡ 4096) × ((n : ℕ) → n < 4096 → slice_index l.counts n ≡ count_by (λ v. v.vid == n) (take l.vlan-index l.vlans))
