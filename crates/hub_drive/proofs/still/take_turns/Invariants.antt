use Rattle.std.proofs.Common.{◌≡◌, List, length}
use Rattle.fg_outside.specs.declared.hub.Happening.{Happening}
use Rattle.hub_drive.specs.declared.sayings.Outlet.TheVariants.{Nowhere}
use Rattle.hub_drive.specs.Driven.{Goes, Tells}
use Rattle.hub_drive.specs.Driving.{deeds_of}
use Rattle.hub_drive.specs.Machine.{behind}
use Rattle.hub_drive.proofs.still.take_turns.Given as goal

-- as many turns were taken as the loop went round, and what was closed in them was closed
abbrev pub invariant-loop : goal.invariant-loop
invariant-loop g l = record {
  took : (w : g.M.Machine.runs.State) → g.M.Machine.runs.stands l.fn.machine w → (hs : List Happening) × (length hs ≡ l.counter) × g.M.Machine.runs.stands l.machine (behind g.M.Machine.runs.works w hs) × Tells g.H.Hub.may l.fn.hub (deeds_of g.M.Machine.runs.works Nowhere w hs) l.hub;
  goes : Goes g.H.Hub.may l.fn.hub l.hub;
  hub_faults : g.H.Hub.faults l.hub ≡ g.H.Hub.faults l.fn.hub;
}
