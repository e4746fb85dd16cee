use Rattle.std.proofs.Common.{◌≡◌, ◌-◌, ◌≤◌}
use Rattle.link_hub.specs.Hub.{poller_of, Passes, most_empty}
use Rattle.link_hub.proofs.hub.LinkHubHub.turn.Given as goal

abbrev pub invariant-loop-asked : goal.invariant-loop-asked
invariant-loop-asked g l = record {
  passes : Passes g.P.L.Link g.P.Poller l.initial.self l.asked l.self;
  within : l.asked ≤ most_empty;
  faults : g.P.Poller.faults (poller_of l.self) ≡ g.P.Poller.faults (poller_of l.initial.self);
}

abbrev pub decreases-loop-asked : goal.decreases-loop-asked
decreases-loop-asked g l = most_empty - l.asked
