use Rattle.std.proofs.Common.{refl, ◌∙◌}
use Rattle.hub_drive.specs.declared.sayings.Outlet.TheVariants.{Nowhere}
use Rattle.hub_drive.specs.Driving.{deeds_by}
use Rattle.hub_drive.proofs.Telling.{Tells-next, Tells-none}
use Rattle.hub_drive.proofs.still.close_all.Goals as goal

pub loop-saying-init : goal.loop-saying-init
loop-saying-init g c = record { told = Tells-none g.H.Hub.may c.args.hub.now; faults = refl }

pub loop-saying-preserved : goal.loop-saying-preserved
loop-saying-preserved g c = record {
  told =
      Tells-next g.H.Hub.may (deeds_by Nowhere) c.args.sayings.now c.loop-saying.saying-index c.saying-item.result c.loop-saying-test.true c.saying-item.is
      c.args.hub.now c.loop-saying.hub c.close_one.new.hub c.loop-saying.invariant.told c.close_one.ensures.told;
  faults = c.close_one.ensures.faults ∙ c.loop-saying.invariant.faults;
}
