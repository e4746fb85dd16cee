use Rattle.std.proofs.Common.{◌≡◌, take}
use Rattle.probe_hub.specs.Says.{SaysAll}
use Rattle.probe_hub.proofs.probe_hub.say_all.Given as goal

abbrev pub invariant-loop-probe : goal.invariant-loop-probe
invariant-loop-probe g l = record {
  says : SaysAll g.H.Hub.may l.initial.hub (take l.probe-index l.probes) l.hub;
  faults : g.H.Hub.faults l.hub ≡ g.H.Hub.faults l.initial.hub;
}
