use Rattle.std.proofs.Common.{◌≡◌, ℕ, get_or, vec_len}
use Rattle.vlan_compile.proofs.learned.no_counts.Given as goal

abbrev pub invariant-loop-vid : goal.invariant-loop-vid
invariant-loop-vid l = (vec_len l.counts ≡ l._vid) × ((vid : ℕ) → get_or l.counts.items vid 0 ≡ 0)
