use Rattle.std.proofs.Common.{take}
use Rattle.law_calls.specs.Hubs.{IsMade}
use Rattle.law_calls.specs.Runs.{Run}
use Rattle.law_calls.proofs.hubs.make_all.Given as goal

abbrev pub invariant-loop-call : goal.invariant-loop-call
invariant-loop-call g l = Run (IsMade g.H.Hub) l.initial.hub (take l.call-index l.calls) l.hub
