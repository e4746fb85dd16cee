use Rattle.std.proofs.Common.{◌+◌, ◌++◌, take, drop, refl, ◌∙◌}
use Rattle.std.specs.List.{flat_map}
use Rattle.hub_drive.specs.Driving.{deeds_by}
use Rattle.hub_drive.proofs.Pieces.{flat_map-parts, on_err}
use Rattle.hub_drive.proofs.Telling.{Tells-next, Tells-none, TellsPart-first, TellsPart-same, TellsPart-second}
use Rattle.hub_drive.proofs.turn.tell_hub.Goals as goal

pub loop-saying-init : goal.loop-saying-init
loop-saying-init g c = record { told = Tells-none g.H.Hub.may c.args.hub.now; faults = refl }

pub returns-in_err-tell_one-clause-err : goal.returns-in_err-tell_one-clause-err
returns-in_err-tell_one-clause-err g c =
    let tells = deeds_by c.args.outlet in
    let sayings = c.args.sayings.now in
    let i = c.loop-saying.saying-index in
    let one = c.saying-item.result in
    let before = flat_map tells (take i sayings) in
    let behind = flat_map tells (drop (i + 1) sayings) in
    on_err c.from_residual.result
    (TellsPart-same g.H.Hub.may c.args.hub.now c.tell_one.new.hub ((before ++ tells one) ++ behind) (flat_map tells sayings) (flat_map-parts tells sayings i one c.loop-saying-test.true c.saying-item.is)
    (TellsPart-first g.H.Hub.may c.args.hub.now c.tell_one.new.hub (before ++ tells one) behind
    (TellsPart-second g.H.Hub.may c.args.hub.now c.loop-saying.hub c.tell_one.new.hub before (tells one) c.loop-saying.invariant.told c.in_err-tell_one.ensures.err)))

pub loop-saying-preserved : goal.loop-saying-preserved
loop-saying-preserved g c = record {
  told =
      Tells-next g.H.Hub.may (deeds_by c.args.outlet) c.args.sayings.now c.loop-saying.saying-index c.saying-item.result c.loop-saying-test.true c.saying-item.is
      c.args.hub.now c.loop-saying.hub c.tell_one.new.hub c.loop-saying.invariant.told c.in_ok-tell_one.ensures.ok;
  faults = c.in_ok-tell_one.ensures.faults ∙ c.loop-saying.invariant.faults;
}
