use Rattle.std.proofs.Common.{◌≡◌, ℕ, ◌<◌, true, false, get_or}
use Rattle.conf_types.proofs.group.next_place.Given as goal

-- of those before the place all that are marked were followed
abbrev pub invariant-loop-k : goal.invariant-loop-k
invariant-loop-k l = (j : ℕ) → j < l.k → get_or l.seen j false ≡ true → get_or l.done j true ≡ true
