use Rattle.std.proofs.Common.{◌≡◌, ℕ, ◌<◌, true, false, length, get_or}
use Rattle.conf_types.specs.declared.datapath.Dp.{Dp}
use Rattle.conf_types.specs.Groups.{IsJoined, leads_to, of_dps}
use Rattle.conf_types.proofs.Marks.{undone}
use Rattle.conf_types.proofs.group.mark_joined.Given as goal

abbrev pub invariant-loop-k : goal.invariant-loop-k
invariant-loop-k l = record {
  seen_len : length l.seen ≡ length l.dps;
  done_len : length l.done ≡ length l.dps;
  start : get_or l.seen l.at false ≡ true;
  followed : (k j : ℕ) (d : Dp) → k < length l.dps → j < length l.dps → get_or l.done k true ≡ true → leads_to (get_or l.dps k d) (get_or l.dps j d).id ≡ true → get_or l.seen j false ≡ true;
  joined : (k : ℕ) (d : Dp) → k < length l.dps → get_or l.seen k false ≡ true → IsJoined (of_dps l.dps) (get_or l.dps l.at d).id (get_or l.dps k d).id;
}

abbrev pub decreases-loop-k : goal.decreases-loop-k
decreases-loop-k l = undone l.done
