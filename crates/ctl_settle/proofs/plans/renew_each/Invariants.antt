use Rattle.std.proofs.Common.{◌≡◌, ◌++◌, map, take, drop}
use Rattle.cold_start.specs.Counts.{RisesAtMost}
use Rattle.packet_way.specs.Present.{state_of}
use Rattle.ctl_settle.specs.Counted.{all_again}
use Rattle.ctl_settle.specs.Plans.{numbers, renewed}
use Rattle.ctl_settle.proofs.plans.renew_each.Given as goal

-- the first ones are renewed and counted, and all are for the connections that they were for
abbrev pub invariant-loop-one : goal.invariant-loop-one
invariant-loop-one g l = record {
  renewed : l.held ≡ map (renewed l.conf (state_of l.now)) (take l.one-index l.initial.held) ++ drop l.one-index l.initial.held;
  numbers : numbers l.held ≡ numbers l.initial.held;
  most : RisesAtMost (all_again l.conf (state_of l.now) l.touched (take l.one-index l.initial.held)) (g.T.Tally.count l.fn.units) (g.T.Tally.count l.units);
}
