use Rattle.std.proofs.Common.{◌≡◌, Some, take}
use Rattle.ctl_core.specs.Story.{behind}
use Rattle.ctl_world.specs.World.{World}
use Rattle.law_turns.proofs.stories.take_turns.Given as goal

abbrev pub invariant-loop-what : goal.invariant-loop-what
invariant-loop-what g l = (w : World) → l.initial.controller ≡ Some w → l.controller ≡ Some (behind w (take l.what-index l.story))
