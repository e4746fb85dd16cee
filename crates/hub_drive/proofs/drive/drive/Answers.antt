use Rattle.std.proofs.Common.{◌≤◌, [], ◌∷◌, ◌++◌, length, Err, IfOk, refl, sym, ap, subst, ◌∙◌, arith}
use Rattle.std.proofs.lemmas.List.{length_push}
use Rattle.hub_drive.specs.Machine.{behind}
use Rattle.fg_outside.specs.declared.hub.Turn.TheVariants.{Done, Failed, Happened, Memory}
use Rattle.fg_outside.specs.HubStep.{turned}
use Rattle.hub_drive.specs.declared.drive.Drove.{Drove}
use Rattle.hub_drive.specs.declared.turn.Stopped.{Stopped}
use Rattle.hub_drive.specs.Driven.{Drives}
use Rattle.hub_drive.proofs.Stories.{AnswersAll-none, AnswersAll-push, AnswersFront-push, AnswersFront-stopped, behind-push, happened_is_no_fault, never_drives, ok_is_no_err, stopped_drives, told-push}
use Rattle.hub_drive.proofs.Telling.{Goes-none, Goes-one, Goes-then}
use Rattle.hub_drive.proofs.drive.drive.Goals as goal

pub returns-in_default-clause-drove : goal.returns-in_default-clause-drove
returns-in_default-clause-drove g c = λ w stands.
    never_drives g.M.Machine.runs.works g.H.Hub.may c.args.outlet c.args.most w c.args.hub.now (g.O.Sink.wrote c.args.out.now) (g.E.Sink.wrote c.args.err.now)

pub returns-in_default-clause-goes : goal.returns-in_default-clause-goes
returns-in_default-clause-goes g c = Goes-none g.H.Hub.may c.args.hub.now

pub loop-init : goal.loop-init
loop-init g c = record {
  answers = λ w known. ([], refl, subst (λ r. IfOk r (λ made. g.M.Machine.runs.stands made w)) c.in-Ok.is known, AnswersAll-none g.M.Machine.runs.works g.H.Hub.may c.args.outlet w c.args.hub.now (g.O.Sink.wrote c.args.out.now) (g.E.Sink.wrote c.args.err.now));
  goes = Goes-none g.H.Hub.may c.args.hub.now;
  hub_faults = refl;
  out_faults = refl;
  err_faults = refl;
}

pub returns-in-Err-clause-drove : goal.returns-in-Err-clause-drove
returns-in-Err-clause-drove g c = λ w known.
    let works = g.M.Machine.runs.works in
    let may = g.H.Hub.may in
    let outlet = c.args.outlet in
    let all = c.loop.invariant.answers w known in
    let hs = all.0 in
    let what = c.in-Happened.what in
    let out_old = g.O.Sink.wrote c.args.out.now in
    let out_new = g.O.Sink.wrote c.take_turn.new.out in
    let err_old = g.E.Sink.wrote c.args.err.now in
    let err_new = g.E.Sink.wrote c.take_turn.new.err in
    let few : length (hs ++ what ∷ []) ≤ c.args.most = omega (arith, length_push hs what, all.1, c.loop-test.true) in
    subst (λ (d : Drove). Drives works may outlet c.args.most w c.args.hub.now c.take_turn.new.hub out_old out_new err_old err_new d) (sym c.drove.ensures)
    (stopped_drives works may outlet c.args.most w c.args.hub.now c.take_turn.new.hub out_old out_new err_old err_new c.in-Err.stopped (hs ++ what ∷ []) few
    (AnswersFront-push works may outlet w hs what c.args.hub.now c.loop.hub c.turn.new.self c.take_turn.new.hub out_old (g.O.Sink.wrote c.loop.out) out_new err_old (g.E.Sink.wrote c.loop.err) err_new
    all.3 c.in-Happened.ensures.step c.a_happening_is_of_bytes.ensures (c.in-Err.ensures.part (behind works w hs) all.2))
    (λ failed. told-push works may outlet w hs what c.args.hub.now c.loop.hub c.turn.new.self c.take_turn.new.hub (all.3).told c.in-Happened.ensures.step (c.in-Err.ensures.told (behind works w hs) all.2 (ap (λ (s : Stopped). Err s) failed))))

pub returns-in-Memory-clause-drove : goal.returns-in-Memory-clause-drove
returns-in-Memory-clause-drove g c = λ w known.
    let all = c.loop.invariant.answers w known in (
      all.0,
      omega (arith, all.1, c.loop-test.true),
      AnswersFront-stopped g.M.Machine.runs.works g.H.Hub.may c.args.outlet w all.0 c.args.hub.now c.loop.hub c.turn.new.self (g.O.Sink.wrote c.args.out.now) (g.O.Sink.wrote c.loop.out) (g.E.Sink.wrote c.args.err.now) (g.E.Sink.wrote c.loop.err) all.3 c.in-Memory.ensures.step,
    )

pub returns-in-Done-clause-drove : goal.returns-in-Done-clause-drove
returns-in-Done-clause-drove g c = λ w known.
    let all = c.loop.invariant.answers w known in (all.0, c.loop.hub, omega (arith, all.1, c.loop-test.true), all.3, c.in-Done.ensures.step)

pub returns-in-Failed-clause-drove : goal.returns-in-Failed-clause-drove
returns-in-Failed-clause-drove g c = λ w known.
    let all = c.loop.invariant.answers w known in (all.0, c.loop.hub, omega (arith, all.1, c.loop-test.true), all.3, c.in-Failed.ensures.step)

pub returns-clause-drove : goal.returns-clause-drove
returns-clause-drove g c = λ w known.
    let all = c.loop.invariant.answers w known in (all.0, omega (arith, all.1, c.loop-test.false, c.loop.auto.counter-end), all.3)

pub loop-preserved : goal.loop-preserved
loop-preserved g c = record {
  answers = λ w known.
      let all = c.loop.invariant.answers w known in
      let hs = all.0 in
      let what = c.in-Happened.what in (
        hs ++ what ∷ [],
        omega (arith, length_push hs what, all.1),
        subst (g.M.Machine.runs.stands c.take_turn.new.machine) (sym (behind-push g.M.Machine.runs.works w hs what)) (c.in_default-take_turn.ensures.known (behind g.M.Machine.runs.works w hs) all.2),
        AnswersAll-push g.M.Machine.runs.works g.H.Hub.may c.args.outlet w hs what c.args.hub.now c.loop.hub c.turn.new.self c.take_turn.new.hub
            (g.O.Sink.wrote c.args.out.now) (g.O.Sink.wrote c.loop.out) (g.O.Sink.wrote c.take_turn.new.out) (g.E.Sink.wrote c.args.err.now) (g.E.Sink.wrote c.loop.err) (g.E.Sink.wrote c.take_turn.new.err)
            all.3 c.in-Happened.ensures.step c.a_happening_is_of_bytes.ensures (c.in_default-take_turn.ensures.ok (behind g.M.Machine.runs.works w hs) all.2),
      );
  goes =
      Goes-then g.H.Hub.may c.args.hub.now c.turn.new.self c.take_turn.new.hub
      (Goes-one g.H.Hub.may c.args.hub.now c.loop.hub (turned (Happened c.in-Happened.what)) c.turn.new.self c.loop.invariant.goes c.in-Happened.ensures.step)
      c.in_default-take_turn.ensures.goes;
  hub_faults = c.in_default-take_turn.ensures.hub_faults ∙ c.in-Happened.ensures.no_fault (happened_is_no_fault c.in-Happened.what) ∙ c.loop.invariant.hub_faults;
  out_faults = (c.in_default-take_turn.ensures.no_write_fault (λ h. ok_is_no_err h)).0 ∙ c.loop.invariant.out_faults;
  err_faults = (c.in_default-take_turn.ensures.no_write_fault (λ h. ok_is_no_err h)).1 ∙ c.loop.invariant.err_faults;
}

pub returns-in-Err-clause-goes : goal.returns-in-Err-clause-goes
returns-in-Err-clause-goes g c =
    Goes-then g.H.Hub.may c.args.hub.now c.turn.new.self c.take_turn.new.hub
    (Goes-one g.H.Hub.may c.args.hub.now c.loop.hub (turned (Happened c.in-Happened.what)) c.turn.new.self c.loop.invariant.goes c.in-Happened.ensures.step)
    c.in-Err.ensures.goes

pub returns-in-Done-clause-goes : goal.returns-in-Done-clause-goes
returns-in-Done-clause-goes g c = Goes-one g.H.Hub.may c.args.hub.now c.loop.hub (turned Done) c.turn.new.self c.loop.invariant.goes c.in-Done.ensures.step

pub returns-in-Failed-clause-goes : goal.returns-in-Failed-clause-goes
returns-in-Failed-clause-goes g c = Goes-one g.H.Hub.may c.args.hub.now c.loop.hub (turned Failed) c.turn.new.self c.loop.invariant.goes c.in-Failed.ensures.step

pub returns-in-Memory-clause-goes : goal.returns-in-Memory-clause-goes
returns-in-Memory-clause-goes g c = Goes-one g.H.Hub.may c.args.hub.now c.loop.hub (turned Memory) c.turn.new.self c.loop.invariant.goes c.in-Memory.ensures.step
