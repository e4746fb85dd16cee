use Rattle.std.proofs.Common.{◌≡◌, take}
use Rattle.std.specs.List.{flat_map}
use Rattle.hub_drive.specs.declared.sayings.Outlet.TheVariants.{Nowhere}
use Rattle.hub_drive.specs.Driven.{Tells}
use Rattle.hub_drive.specs.Driving.{deeds_by}
use Rattle.hub_drive.proofs.still.close_all.Given as goal

abbrev pub invariant-loop-saying : goal.invariant-loop-saying
invariant-loop-saying g l = record {
  told : Tells g.H.Hub.may l.fn.hub (flat_map (deeds_by Nowhere) (take l.saying-index l.sayings)) l.hub;
  faults : g.H.Hub.faults l.hub ≡ g.H.Hub.faults l.fn.hub;
}
