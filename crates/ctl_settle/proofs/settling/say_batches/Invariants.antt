use Rattle.std.proofs.Common.{◌≡◌, true, drop}
use Rattle.std.specs.List.{AllByRecursion}
use Rattle.conf_types.specs.State.{is_running}
use Rattle.ctl_world.specs.World.{IsSound, running}
use Rattle.ctl_settle.specs.Plans.{AreBrought}
use Rattle.ctl_settle.specs.Rest.{AreInOrder}
use Rattle.ctl_settle.specs.Settling.{batches}
use Rattle.ctl_settle.proofs.settling.say_batches.Given as goal

-- what is left to say completes the whole, what was learned stays valid, and the plans want what is to be said
abbrev pub invariant-loop-dp : goal.invariant-loop-dp
invariant-loop-dp l = record {
  whole : batches (drop l.dp-index l.dps) l.world ≡ batches l.dps l.fn.world;
  sound : IsSound l.world;
  in_order : AreInOrder l.world;
  brought : AreBrought l.world l.plans;
  run : AllByRecursion (λ dp. is_running (running l.world) dp ≡ true) (drop l.dp-index l.dps);
}
