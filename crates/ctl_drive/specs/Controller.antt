-- How the controller works, as a hub drives it.
use Rattle.std.specs.Prelude.{◌≡◌, map, Some, None}
use Rattle.ctl_world.specs.World.{World}
use Rattle.ctl_life.specs.Sayings.{saying_of}
use Rattle.ctl_core.specs.Turns.{turn}
use Rattle.hub_drive.specs.Machine.{Runs, Workings}
use Rattle.ctl_drive.specs.declared.steered.Steered.{Steered}

-- it says messages as they are spelled, closings and lines, and prints nothing
abbrev pub controller : Workings World
controller = record { turn = turn; moment = λ w. w.moment.0; says = λ w. map saying_of w.said; prints = None }

-- a controller knows this
abbrev pub StandsFor : {T : Type 0} → Steered T → World → Type 0
StandsFor s w = s.core ≡ Some w

abbrev pub controls : {T : Type 0} → Runs (Steered T)
controls = record { State = World; works = controller; stands = StandsFor }
