use Rattle.std.proofs.Common.{◌≡◌, List, length, IfOk}
use Rattle.fg_outside.specs.declared.hub.Happening.{Happening}
use Rattle.hub_drive.specs.Driven.{AnswersAll, Goes}
use Rattle.hub_drive.specs.Machine.{behind}
use Rattle.hub_drive.proofs.drive.drive.Given as goal

-- as many turns were taken as the loop went round, and all of them are answered whole
abbrev pub invariant-loop : goal.invariant-loop
invariant-loop g l = record {
  answers : (w : g.M.Machine.runs.State) → IfOk l.fn.machine (λ made. g.M.Machine.runs.stands made w) → (hs : List Happening) × (length hs ≡ l.counter) × g.M.Machine.runs.stands l.machine (behind g.M.Machine.runs.works w hs) × AnswersAll g.M.Machine.runs.works g.H.Hub.may l.outlet w hs l.fn.hub l.hub (g.O.Sink.wrote l.fn.out) (g.O.Sink.wrote l.out) (g.E.Sink.wrote l.fn.err) (g.E.Sink.wrote l.err);
  goes : Goes g.H.Hub.may l.fn.hub l.hub;
  hub_faults : g.H.Hub.faults l.hub ≡ g.H.Hub.faults l.fn.hub;
  out_faults : g.O.Sink.faults l.out ≡ g.O.Sink.faults l.fn.out;
  err_faults : g.E.Sink.faults l.err ≡ g.E.Sink.faults l.fn.err;
}
