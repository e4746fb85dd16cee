use Rattle.std.proofs.Common.{◌≤◌, [], ◌∷◌, ◌++◌, length, refl, sym, ap, subst, ◌∙◌, arith}
use Rattle.std.specs.List.{flat_map}
use Rattle.std.proofs.lemmas.List.{length_push}
use Rattle.fg_outside.specs.declared.hub.Turn.TheVariants.{Done, Failed, Happened, Memory}
use Rattle.fg_outside.specs.HubStep.{turned}
use Rattle.hub_drive.specs.declared.sayings.Outlet.TheVariants.{Nowhere}
use Rattle.hub_drive.specs.Driven.{Tells}
use Rattle.hub_drive.specs.Driving.{deeds_by, sayings_of}
use Rattle.hub_drive.specs.Machine.{behind}
use Rattle.hub_drive.proofs.Stories.{behind-push, happened_is_no_fault, told-push}
use Rattle.hub_drive.proofs.Telling.{Goes-none, Goes-of, Goes-one, Goes-then, Tells-none, Tells-same}
use Rattle.hub_drive.proofs.still.take_turns.Goals as goal

pub loop-init : goal.loop-init
loop-init g c = record {
  took = λ w stands. ([], refl, stands, Tells-none g.H.Hub.may c.args.hub.now);
  goes = Goes-none g.H.Hub.may c.args.hub.now;
  hub_faults = refl;
}

pub returns-in-Done-clause-took : goal.returns-in-Done-clause-took
returns-in-Done-clause-took g c = λ w stands.
    let all = c.loop.invariant.took w stands in (all.0, c.loop.hub, omega (arith, all.1, c.loop-test.true), all.3, c.in-Done.ensures.step, all.2)

pub returns-clause-took : goal.returns-clause-took
returns-clause-took g c = λ w stands.
    let all = c.loop.invariant.took w stands in (all.0, omega (arith, all.1, c.loop-test.false, c.loop.auto.counter-end), all.3)

pub loop-preserved : goal.loop-preserved
loop-preserved g c =
    let may = g.H.Hub.may in
    let works = g.M.Machine.runs.works in
    let what = c.in-Happened.what in
    let turned_once = Goes-one may c.args.hub.now c.loop.hub (turned (Happened what)) c.turn.new.self c.loop.invariant.goes c.in-Happened.ensures.step in
    record {
      took = λ w stands.
          let all = c.loop.invariant.took w stands in
          let hs = all.0 in
          let v = behind works w hs in (
            hs ++ what ∷ [],
            omega (arith, length_push hs what, all.1),
            subst (g.M.Machine.runs.stands c.turn-in-Happened.new.self) (sym (behind-push works w hs what)) (c.in-Ok.ensures.stands v all.2),
            told-push works may Nowhere w hs what c.args.hub.now c.loop.hub c.turn.new.self c.close_all.new.hub all.3 c.in-Happened.ensures.step
                (Tells-same may c.turn.new.self c.close_all.new.hub _ (flat_map (deeds_by Nowhere) (sayings_of works what v)) (ap (λ l. flat_map (deeds_by Nowhere) l) (c.as_slice.ensures ∙ c.in-Ok.ensures.says v all.2)) c.close_all.ensures.told),
          );
      goes = Goes-then may c.args.hub.now c.turn.new.self c.close_all.new.hub turned_once (Goes-of may c.turn.new.self c.close_all.new.hub _ c.close_all.ensures.told);
      hub_faults = c.close_all.ensures.faults ∙ c.in-Happened.ensures.no_fault (happened_is_no_fault what) ∙ c.loop.invariant.hub_faults;
    }

pub returns-in-Done-clause-goes : goal.returns-in-Done-clause-goes
returns-in-Done-clause-goes g c = Goes-one g.H.Hub.may c.args.hub.now c.loop.hub (turned Done) c.turn.new.self c.loop.invariant.goes c.in-Done.ensures.step

pub returns-in-Failed-clause-goes : goal.returns-in-Failed-clause-goes
returns-in-Failed-clause-goes g c = Goes-one g.H.Hub.may c.args.hub.now c.loop.hub (turned Failed) c.turn.new.self c.loop.invariant.goes c.in-Failed.ensures.step

pub returns-in-Memory-clause-goes : goal.returns-in-Memory-clause-goes
returns-in-Memory-clause-goes g c = Goes-one g.H.Hub.may c.args.hub.now c.loop.hub (turned Memory) c.turn.new.self c.loop.invariant.goes c.in-Memory.ensures.step

pub returns-in_default-clause-goes : goal.returns-in_default-clause-goes
returns-in_default-clause-goes g c = Goes-one g.H.Hub.may c.args.hub.now c.loop.hub (turned (Happened c.in-Happened.what)) c.turn.new.self c.loop.invariant.goes c.in-Happened.ensures.step
