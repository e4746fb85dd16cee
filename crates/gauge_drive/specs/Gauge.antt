-- How Gauge works, as a hub drives it.
use Rattle.std.specs.Prelude.{ℕ, List, map, Some}
use Rattle.std.specs.List.{flat_map}
use Rattle.ctl_life.specs.Sayings.{saying_of}
use Rattle.hub_drive.specs.Machine.{Runs, Workings}
use Rattle.gauge_poll.specs.Monitoring.{Monitor, turn}
use Rattle.gauge_poll.specs.StandsFor as gauge
use Rattle.gauge_drive.specs.declared.driven.DrivenGauge.{DrivenGauge}

-- lines and blocks, one behind the other: each has the ends of its lines
abbrev pub joined : List (List ℕ) → List ℕ
joined lines = flat_map (λ line. line) lines

-- it says messages as they are spelled, closings and lines, and prints the lines and blocks of what switches told
abbrev pub monitor : Workings Monitor
monitor = record {
  turn = turn;
  moment = λ m. m.said.world.moment.0;
  says = λ m. map saying_of m.said.world.said;
  prints = Some (λ m. joined m.lines);
}

-- a Gauge knows this
abbrev pub StandsFor : DrivenGauge → Monitor → Type 0
StandsFor g m = gauge.StandsFor g.gauge m

abbrev pub monitors : Runs DrivenGauge
monitors = record { State = Monitor; works = monitor; stands = StandsFor }
