use Rattle.std.proofs.Common.{[], ◌∷◌, refl, sym, ap}
use Rattle.fg_outside.specs.declared.hub.Said.TheVariants as answers
use Rattle.fg_outside.specs.HubStep.{said as step_said}
use Rattle.ctl_life.specs.declared.saying.Saying.TheVariants.{Send}
use Rattle.hub_drive.specs.declared.sayings.Outlet.{Outlet}
use Rattle.hub_drive.specs.Driving.{said, deeds_by}
use Rattle.hub_drive.proofs.Telling.{Tells-none, Tells-one, Tells-same, TellsPart-one, TellsPart-same}
use Rattle.hub_drive.proofs.turn.say_on.Goals as goal

pub returns-in-Records-clause-ok : goal.returns-in-Records-clause-ok
returns-in-Records-clause-ok g c =
    Tells-same g.H.Hub.may c.args.hub.now c.args.hub.now [] (deeds_by c.args.outlet (Send c.args.conn c.args.message.now))
    (sym (ap (λ (o : Outlet). deeds_by o (Send c.args.conn c.args.message.now)) c.in-Records.is))
    (Tells-none g.H.Hub.may c.args.hub.now)

pub returns-in-Nowhere-clause-ok : goal.returns-in-Nowhere-clause-ok
returns-in-Nowhere-clause-ok g c =
    Tells-same g.H.Hub.may c.args.hub.now c.args.hub.now [] (deeds_by c.args.outlet (Send c.args.conn c.args.message.now))
    (sym (ap (λ (o : Outlet). deeds_by o (Send c.args.conn c.args.message.now)) c.in-Nowhere.is))
    (Tells-none g.H.Hub.may c.args.hub.now)

pub returns-in-Taken-clause-ok : goal.returns-in-Taken-clause-ok
returns-in-Taken-clause-ok g c =
    Tells-same g.H.Hub.may c.args.hub.now c.say.new.self (said c.args.conn c.args.message.now ∷ []) (deeds_by c.args.outlet (Send c.args.conn c.args.message.now))
    (sym (ap (λ (o : Outlet). deeds_by o (Send c.args.conn c.args.message.now)) c.in-Hub.is))
    (Tells-one g.H.Hub.may c.args.hub.now (step_said c.args.conn c.args.message.now answers.Taken) c.say.new.self c.in-Taken.ensures.step refl)

pub returns-in-Gone-clause-ok : goal.returns-in-Gone-clause-ok
returns-in-Gone-clause-ok g c =
    Tells-same g.H.Hub.may c.args.hub.now c.say.new.self (said c.args.conn c.args.message.now ∷ []) (deeds_by c.args.outlet (Send c.args.conn c.args.message.now))
    (sym (ap (λ (o : Outlet). deeds_by o (Send c.args.conn c.args.message.now)) c.in-Hub.is))
    (Tells-one g.H.Hub.may c.args.hub.now (step_said c.args.conn c.args.message.now answers.Gone) c.say.new.self c.in-Gone.ensures.step refl)

pub returns-in-Memory-clause-err : goal.returns-in-Memory-clause-err
returns-in-Memory-clause-err g c =
    TellsPart-same g.H.Hub.may c.args.hub.now c.say.new.self (said c.args.conn c.args.message.now ∷ []) (deeds_by c.args.outlet (Send c.args.conn c.args.message.now))
    (sym (ap (λ (o : Outlet). deeds_by o (Send c.args.conn c.args.message.now)) c.in-Hub.is))
    (TellsPart-one g.H.Hub.may c.args.hub.now (step_said c.args.conn c.args.message.now c.say.result) c.say.new.self c.say.ensures.step)
