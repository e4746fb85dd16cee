use Rattle.std.proofs.Common.{[], ◌∷◌, refl, sym, ap, ◌∙◌}
use Rattle.fg_outside.specs.HubStep.{closed}
use Rattle.ctl_life.specs.declared.saying.Saying.{Saying}
use Rattle.hub_drive.specs.Driving.{shut, deeds_by}
use Rattle.hub_drive.proofs.Telling.{Tells-none, Tells-one, Tells-same}
use Rattle.hub_drive.proofs.Told.{line_nothing, shut_one}
use Rattle.hub_drive.proofs.turn.tell_one.Goals as goal

pub returns-in-Close-clause-ok : goal.returns-in-Close-clause-ok
returns-in-Close-clause-ok g c =
    let may = g.H.Hub.may in
    let outlet = c.args.outlet in
    let conn = c.in-Close.conn in
    Tells-same may c.args.hub.now c.close.new.self (shut conn ∷ []) (deeds_by outlet c.args.saying.now)
    (shut_one outlet conn c.in-Close.cause ∙ ap (λ (s : Saying). deeds_by outlet s) (sym c.in-Close.is))
    (Tells-one may c.args.hub.now (closed conn) c.close.new.self c.close.ensures.step refl)

pub returns-in-Line-clause-ok : goal.returns-in-Line-clause-ok
returns-in-Line-clause-ok g c =
    let may = g.H.Hub.may in
    let outlet = c.args.outlet in
    Tells-same may c.args.hub.now c.args.hub.now [] (deeds_by outlet c.args.saying.now)
    (line_nothing outlet c.in-Line.field-0 ∙ ap (λ (s : Saying). deeds_by outlet s) (sym c.in-Line.is))
    (Tells-none may c.args.hub.now)
