use Rattle.std.proofs.Common.{refl, ◌∙◌}
use Rattle.hub_drive.proofs.Answering.{all_done, nothing_done, part_lined, part_told, part_written, whole_told}
use Rattle.hub_drive.proofs.Pieces.{on_err}
use Rattle.hub_drive.proofs.Telling.{Goes-none, Goes-of, Goes-of-part}
use Rattle.hub_drive.proofs.turn.take_turn.Goals as goal

pub returns-in_err-moment-clause-part : goal.returns-in_err-moment-clause-part
returns-in_err-moment-clause-part g c = λ w stands.
    on_err c.from_residual.result (nothing_done g.M.Machine.runs.works g.H.Hub.may c.args.outlet c.args.what.now w c.args.hub.now (g.O.Sink.wrote c.args.out.now) (g.E.Sink.wrote c.args.err.now))

pub returns-in_err-moment-clause-goes : goal.returns-in_err-moment-clause-goes
returns-in_err-moment-clause-goes g c = Goes-none g.H.Hub.may c.args.hub.now

pub returns-in_err-printed-clause-part : goal.returns-in_err-printed-clause-part
returns-in_err-printed-clause-part g c = λ w stands.
    on_err c.from_residual-in_err-printed.result (nothing_done g.M.Machine.runs.works g.H.Hub.may c.args.outlet c.args.what.now w c.args.hub.now (g.O.Sink.wrote c.args.out.now) (g.E.Sink.wrote c.args.err.now))

pub returns-in_err-printed-clause-goes : goal.returns-in_err-printed-clause-goes
returns-in_err-printed-clause-goes g c = Goes-none g.H.Hub.may c.args.hub.now

pub returns-in_err-lines-clause-part : goal.returns-in_err-lines-clause-part
returns-in_err-lines-clause-part g c = λ w stands.
    on_err c.from_residual-in_err-lines.result (nothing_done g.M.Machine.runs.works g.H.Hub.may c.args.outlet c.args.what.now w c.args.hub.now (g.O.Sink.wrote c.args.out.now) (g.E.Sink.wrote c.args.err.now))

pub returns-in_err-lines-clause-goes : goal.returns-in_err-lines-clause-goes
returns-in_err-lines-clause-goes g c = Goes-none g.H.Hub.may c.args.hub.now

pub returns-in_err-tell_hub-clause-part : goal.returns-in_err-tell_hub-clause-part
returns-in_err-tell_hub-clause-part g c = λ w stands.
    on_err c.from_residual-in_err-tell_hub.result
    (part_told g.M.Machine.runs.works g.H.Hub.may c.args.outlet c.args.what.now w c.as_slice-3.result.now (c.as_slice-3.ensures ∙ c.in_ok-moment.ensures.says w stands) c.args.hub.now c.tell_hub.new.hub
    (g.O.Sink.wrote c.args.out.now) (g.E.Sink.wrote c.args.err.now) c.in_err-tell_hub.ensures.err)

pub returns-in_err-write_all-clause-part : goal.returns-in_err-write_all-clause-part
returns-in_err-write_all-clause-part g c = λ w stands.
    let took = c.in_ok-moment.ensures in
    on_err c.from_residual-in_err-write_all.result
    (part_written g.M.Machine.runs.works g.H.Hub.may c.args.outlet c.args.what.now w _ (took.says w stands) c.args.hub.now c.tell_hub.new.hub _ (took.moment w stands) _ (took.prints w stands) _ _
    (rw c.as_slice.ensures at (c.as_slice-4.ensures ∙ c.in_ok-printed.ensures)) refl (rw c.as_slice-3.ensures at c.in_ok-tell_hub.ensures.ok)
    (g.O.Sink.wrote c.args.out.now) (g.O.Sink.wrote c.write_all.new.sink) (g.E.Sink.wrote c.args.err.now) c.in_err-write_all.ensures.err)

pub returns-in_err-write_all-2-clause-part : goal.returns-in_err-write_all-2-clause-part
returns-in_err-write_all-2-clause-part g c = λ w stands.
    let took = c.in_ok-moment.ensures in
    on_err c.from_residual-in_err-write_all-2.result
    (part_lined g.M.Machine.runs.works g.H.Hub.may c.args.outlet c.args.what.now w _ (took.says w stands) c.args.hub.now c.tell_hub.new.hub _ (took.moment w stands) _ (took.prints w stands) _ _
    (rw c.as_slice.ensures at (c.as_slice-4.ensures ∙ c.in_ok-printed.ensures)) (rw c.as_slice-2.ensures at (c.as_slice-5.ensures ∙ c.in_ok-lines.ensures)) (rw c.as_slice-3.ensures at c.in_ok-tell_hub.ensures.ok)
    (g.O.Sink.wrote c.args.out.now) (g.O.Sink.wrote c.write_all.new.sink) (g.E.Sink.wrote c.args.err.now) (g.E.Sink.wrote c.write_all-2.new.sink) c.in_ok-write_all.ensures.ok c.in_err-write_all-2.ensures.err)

pub returns-in_err-write_all-clause-told : goal.returns-in_err-write_all-clause-told
returns-in_err-write_all-clause-told g c = λ w stands failed.
    whole_told g.M.Machine.runs.works g.H.Hub.may c.args.outlet c.args.what.now w _ (c.in_ok-moment.ensures.says w stands) c.args.hub.now c.tell_hub.new.hub (rw c.as_slice-3.ensures at c.in_ok-tell_hub.ensures.ok)

pub returns-in_err-write_all-2-clause-told : goal.returns-in_err-write_all-2-clause-told
returns-in_err-write_all-2-clause-told g c = λ w stands failed.
    whole_told g.M.Machine.runs.works g.H.Hub.may c.args.outlet c.args.what.now w _ (c.in_ok-moment.ensures.says w stands) c.args.hub.now c.tell_hub.new.hub (rw c.as_slice-3.ensures at c.in_ok-tell_hub.ensures.ok)

pub returns-clause-ok : goal.returns-clause-ok
returns-clause-ok g c = λ w stands.
    let took = c.in_ok-moment.ensures in
    all_done g.M.Machine.runs.works g.H.Hub.may c.args.outlet c.args.what.now w _ (took.says w stands) c.args.hub.now c.tell_hub.new.hub _ (took.moment w stands) _ (took.prints w stands) _ _
    (rw c.as_slice.ensures at (c.as_slice-4.ensures ∙ c.in_ok-printed.ensures)) (rw c.as_slice-2.ensures at (c.as_slice-5.ensures ∙ c.in_ok-lines.ensures)) (rw c.as_slice-3.ensures at c.in_ok-tell_hub.ensures.ok)
    (g.O.Sink.wrote c.args.out.now) (g.O.Sink.wrote c.write_all.new.sink) (g.E.Sink.wrote c.args.err.now) (g.E.Sink.wrote c.write_all-2.new.sink) c.in_ok-write_all.ensures.ok c.in_ok-write_all-2.ensures.ok

pub returns-in_err-tell_hub-clause-goes : goal.returns-in_err-tell_hub-clause-goes
returns-in_err-tell_hub-clause-goes g c = Goes-of-part g.H.Hub.may c.args.hub.now c.tell_hub.new.hub _ c.in_err-tell_hub.ensures.err

pub returns-in_err-write_all-clause-goes : goal.returns-in_err-write_all-clause-goes
returns-in_err-write_all-clause-goes g c = Goes-of g.H.Hub.may c.args.hub.now c.tell_hub.new.hub _ c.in_ok-tell_hub.ensures.ok

pub returns-in_err-write_all-2-clause-goes : goal.returns-in_err-write_all-2-clause-goes
returns-in_err-write_all-2-clause-goes g c = Goes-of g.H.Hub.may c.args.hub.now c.tell_hub.new.hub _ c.in_ok-tell_hub.ensures.ok

pub returns-clause-goes : goal.returns-clause-goes
returns-clause-goes g c = Goes-of g.H.Hub.may c.args.hub.now c.tell_hub.new.hub _ c.in_ok-tell_hub.ensures.ok
