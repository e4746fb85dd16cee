use Rattle.std.proofs.Common.{◌≡◌, ℕ, ◌<◌, ◌≤◌, ◌||◌, false, get_or}
use Rattle.conf_types.specs.declared.datapath.Dp.{Dp}
use Rattle.conf_types.specs.Groups.{leads_to}
use Rattle.conf_types.proofs.group.mark_next.Given as goal

-- those before the place have their marks, and those from it on are as they were
abbrev pub invariant-loop-k : goal.invariant-loop-k
invariant-loop-k l = record {
  before : (j : ℕ) (d : Dp) → j < l.k → get_or l.seen j false ≡ (get_or l.initial.seen j false || leads_to l.from (get_or l.dps j d).id);
  behind : (j : ℕ) → l.k ≤ j → get_or l.seen j false ≡ get_or l.initial.seen j false;
}
