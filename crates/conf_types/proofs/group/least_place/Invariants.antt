use Rattle.std.proofs.Common.{◌≡◌, ℕ, ◌<◌, ◌≤◌, true, false, length, get_or}
use Rattle.conf_types.specs.declared.datapath.Dp.{Dp}
use Rattle.conf_types.proofs.group.least_place.Given as goal

-- the best is marked, and none before the place is less
abbrev pub invariant-loop-k : goal.invariant-loop-k
invariant-loop-k l = record {
  within : l.best < length l.dps;
  marked : get_or l.seen l.best false ≡ true;
  least : (j : ℕ) (d : Dp) → j < l.k → get_or l.seen j false ≡ true → (get_or l.dps l.best d).id.0 ≤ (get_or l.dps j d).id.0;
}
