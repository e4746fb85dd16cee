use Rattle.std.proofs.Common.{◌≡◌, ◌<◌, ℕ, drop, length, slice_index}
use Rattle.std.specs.List.{slice_get}
use Rattle.conf_types.specs.Configuration.{vlan_with}
use Rattle.conf_limits.proofs.numbered.firsts_of.Given as goal

-- those from here on have their places
abbrev pub invariant-loop-i : goal.invariant-loop-i
invariant-loop-i l =
    (length l.firsts ≡ 4096) × ((n : ℕ) → n < 4096 → slice_get l.vlans (slice_index l.firsts n) ≡ vlan_with (drop l.i l.vlans) n)
