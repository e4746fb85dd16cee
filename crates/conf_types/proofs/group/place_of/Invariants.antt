use Rattle.std.proofs.Common.{◌≡◌, ℕ, ◌<◌, get_or}
use Rattle.conf_types.specs.declared.datapath.Dp.{Dp}
use Rattle.conf_types.proofs.group.place_of.Given as goal

-- none before the place has the identifier
abbrev pub invariant-loop-k : goal.invariant-loop-k
invariant-loop-k l = (j : ℕ) (d : Dp) → j < l.k → (get_or l.dps j d).id ≡ l.id → ⊥
