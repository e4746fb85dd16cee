use Rattle.std.proofs.Common.{◌≡◌, ℕ, ◌<◌, length, get_or}
use Rattle.net_base.specs.declared.numbers.DpId.{DpId}
use Rattle.conf_types.specs.declared.datapath.Dp.{Dp}
use Rattle.conf_types.specs.Groups.{group_of, of_dps}
use Rattle.conf_types.proofs.group.groups_of.Given as goal

-- the numbers of those before the place
abbrev pub invariant-loop-at : goal.invariant-loop-at
invariant-loop-at l = record {
  long : length l.groups ≡ 64;
  before : (k : ℕ) (d : Dp) (g : DpId) → k < l.at → get_or l.groups k g ≡ group_of (of_dps l.dps) (get_or l.dps k d).id;
}
