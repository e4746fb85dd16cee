use Rattle.std.proofs.Common.{◌≡◌, ◌++◌, ◌+◌, ◌*◌, ◌-◌, ◌≤◌, All, take}
use Rattle.std.specs.List.{flat_map}
use Rattle.packet_way.specs.Present.{state_of}
use Rattle.net_walk.specs.Kept.{IsKept, units_left}
use Rattle.net_walk.proofs.Steps.{onward}
use Rattle.net_walk.proofs.walking.Walking.+push_arrivals.Given as goal

abbrev pub decreases-push_arrivals : goal.decreases-push_arrivals
decreases-push_arrivals g l = l.left

-- what comes of the sends so far
abbrev pub invariant-loop-sent : goal.invariant-loop-sent
invariant-loop-sent g l = record {
  kept : All (IsKept l.self.conf.now (state_of l.self.learned.now)) l.kept;
  most : g.T.Tally.count l.units + 3 * units_left l.self.conf.now (state_of l.self.learned.now) l.kept ≤ g.T.Tally.count l.fn.units + 3 * units_left l.self.conf.now (state_of l.self.learned.now) l.fn.kept;
  arrivals : l.out ≡ l.fn.out ++ flat_map (onward l.self.conf.now (state_of l.self.learned.now) (l.left - 1) l.dp) (take l.sent-index l.sent-items);
}
