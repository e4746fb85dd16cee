use Rattle.std.proofs.Common.{◌≡◌, ◌+◌, ◌≤◌, true, drop}
use Rattle.std.specs.List.{AllByRecursion}
use Rattle.conf_types.specs.State.{is_running}
use Rattle.ctl_world.specs.World.{running}
use Rattle.packet_way.specs.Present.{state_of}
use Rattle.ctl_settle.specs.Counted.{all_anew}
use Rattle.ctl_settle.specs.Plans.{AreApart, with_plans}
use Rattle.ctl_settle.proofs.plans.open_plans.Given as goal

-- those that are left to make complete the whole, and what may still be counted for them too
abbrev pub invariant-loop-dp : goal.invariant-loop-dp
invariant-loop-dp g l = record {
  whole : with_plans l.world.conf (state_of l.now) l.world.conns (drop l.dp-index l.dps) l.held.items ≡ with_plans l.world.conf (state_of l.now) l.world.conns l.dps l.fn.held.items;
  apart : AreApart l.held.items;
  run : AllByRecursion (λ dp. is_running (running l.world) dp ≡ true) (drop l.dp-index l.dps);
  left : g.T.Tally.count l.units + all_anew l.world.conf (state_of l.now) l.world.conns l.held.items ≤ g.T.Tally.count l.fn.units + all_anew l.world.conf (state_of l.now) l.world.conns l.fn.held.items;
}
