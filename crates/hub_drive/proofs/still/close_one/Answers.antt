use Rattle.std.proofs.Common.{[], ◌∷◌, refl, sym, ap}
use Rattle.fg_outside.specs.HubStep.{closed}
use Rattle.ctl_life.specs.declared.saying.Saying.{Saying}
use Rattle.hub_drive.specs.declared.sayings.Outlet.TheVariants.{Nowhere}
use Rattle.hub_drive.specs.Driving.{shut, deeds_by}
use Rattle.hub_drive.proofs.Telling.{Tells-none, Tells-one, Tells-same}
use Rattle.hub_drive.proofs.still.close_one.Goals as goal

pub returns-in-Send-clause-told : goal.returns-in-Send-clause-told
returns-in-Send-clause-told g c =
    Tells-same g.H.Hub.may c.args.hub.now c.args.hub.now [] (deeds_by Nowhere c.args.saying.now) (ap (λ (s : Saying). deeds_by Nowhere s) (sym c.in-Send.is)) (Tells-none g.H.Hub.may c.args.hub.now)

pub returns-in-Close-clause-told : goal.returns-in-Close-clause-told
returns-in-Close-clause-told g c =
    Tells-same g.H.Hub.may c.args.hub.now c.close.new.self (shut c.in-Close.conn ∷ []) (deeds_by Nowhere c.args.saying.now) (ap (λ (s : Saying). deeds_by Nowhere s) (sym c.in-Close.is))
    (Tells-one g.H.Hub.may c.args.hub.now (closed c.in-Close.conn) c.close.new.self c.close.ensures.step refl)

pub returns-in-Line-clause-told : goal.returns-in-Line-clause-told
returns-in-Line-clause-told g c =
    Tells-same g.H.Hub.may c.args.hub.now c.args.hub.now [] (deeds_by Nowhere c.args.saying.now) (ap (λ (s : Saying). deeds_by Nowhere s) (sym c.in-Line.is)) (Tells-none g.H.Hub.may c.args.hub.now)
