use Rattle.std.proofs.Common.{◌∙◌}
use Rattle.conf_gather.specs.declared.refused.LoadRefused.TheVariants.{Read}
use Rattle.faucet_top.specs.Given.{speaking_with}
use Rattle.faucet_top.proofs.CheckLemmas.{accepted_loads, refused, refused_loads}
use Rattle.faucet_top.proofs.ReadLemmas.{no_read_refused, refusal_named, refused_by}
use Rattle.faucet_top.proofs.ReplayLemmas.{by_router}
use Rattle.faucet_top.proofs.ReplyLemmas.{bgp_given, bgp_lacks_given, bgp_refusal_given}
use Rattle.faucet_top.proofs.SpeakLemmas.{lacks_delivered, lacks_read}
use Rattle.faucet_top.proofs.bgp.speak_on_recording.Goals as goal

pub returns-in-Ok-Ok-clause-gives : goal.returns-in-Ok-Ok-clause-gives
returns-in-Ok-Ok-clause-gives g c =
    let peer = c.in-Ok-Ok.peer in
    let did = c.run_recording.ensures in
    bgp_given (g.F.Files.contents c.args.files) _ _ _ _ _ _ c.in-Ok-Ok.ensures.files.counted_absences c.in-Ok-Ok.ensures.files.counted_faults _ _ _ _ _ _ _ _ _ _ c.args.config.now c.args.recording.now c.args.router.now peer
    (rw c.in-Ok-Ok.field-0-is at c.in-Ok-Ok.ensures.told) (rw c.in-Ok-Ok.ensures.files.same_contents at (did.gives (speaking_with peer) c.speaker_for-machine.ensures))

pub returns-in-Ok-Ok-clause-no_read_fault : goal.returns-in-Ok-Ok-clause-no_read_fault
returns-in-Ok-Ok-clause-no_read_fault g c = λ unread written below.
    let kept = c.in-Ok-Ok.ensures.files.no_fault (λ file is. absurd cc) in
    c.run_recording.ensures.no_read_fault unread written (rw kept below) ∙ kept

pub returns-in-Ok-Ok-clause-named : goal.returns-in-Ok-Ok-clause-named
returns-in-Ok-Ok-clause-named g c = λ unread below.
    let kept = c.in-Ok-Ok.ensures.files.no_fault (λ file is. absurd cc) in
    c.run_recording.ensures.named (speaking_with c.in-Ok-Ok.peer) c.speaker_for-machine.ensures unread (rw kept below)

pub returns-in-Ok-Err-clause-gives : goal.returns-in-Ok-Err-clause-gives
returns-in-Ok-Err-clause-gives g c =
    bgp_lacks_given (g.F.Files.contents c.args.files) _ _ _ (g.O.Sink.wrote c.args.out.now) (g.O.Sink.wrote c.args.out.now) _ _ (g.O.Sink.faults c.args.out.now) (g.O.Sink.faults c.args.out.now) _ _ c.args.config.now c.args.router.now c.args.recording.now _ c.in-Ok-Err.lacks
    (lacks_delivered c.args.config.now c.args.router.now (g.O.Sink.wrote c.args.out.now) _ _ (g.O.Sink.faults c.args.out.now) _ _ c.in-Ok-Err.lacks c.deliver_lacks.result c.deliver_lacks.ensures.ends)
    (accepted_loads (by_router c.args.router.now) _ _ _ _ c.args.config.now _ (rw c.in-Ok-Err.field-0-is at c.in-Ok-Err.ensures.told))

pub returns-in-Ok-Err-clause-no_read_fault : goal.returns-in-Ok-Err-clause-no_read_fault
returns-in-Ok-Err-clause-no_read_fault g c = λ unread written below. c.in-Ok-Err.ensures.files.no_fault (λ file is. absurd cc)

pub returns-in-Ok-Err-clause-named : goal.returns-in-Ok-Err-clause-named
returns-in-Ok-Err-clause-named g c = λ unread below. absurd (lacks_read _ _ _ _ _ c.deliver_lacks.result c.deliver_lacks.ensures.ends unread)

pub returns-in-Err-clause-gives : goal.returns-in-Err-clause-gives
returns-in-Err-clause-gives g c =
    bgp_refusal_given (g.F.Files.contents c.args.files) _ _ _ (g.O.Sink.wrote c.args.out.now) (g.O.Sink.wrote c.args.out.now) _ _ (g.O.Sink.faults c.args.out.now) (g.O.Sink.faults c.args.out.now) _ _ c.args.config.now c.args.router.now c.args.recording.now _ c.in-Err.why
    (refused c.args.config.now (g.O.Sink.wrote c.args.out.now) (g.O.Sink.wrote c.args.out.now) _ _ (g.O.Sink.faults c.args.out.now) (g.O.Sink.faults c.args.out.now) _ _ c.in-Err.why c.deliver_refusal.result c.deliver_refusal.ensures.ends)
    (refused_loads (by_router c.args.router.now) _ _ _ _ _ _ c.args.config.now c.in-Err.why c.in-Err.ensures.told c.in-Err.ensures.files)

pub returns-in-Err-clause-no_read_fault : goal.returns-in-Err-clause-no_read_fault
returns-in-Err-clause-no_read_fault g c = λ unread written below.
    c.in-Err.ensures.files.no_fault (λ file is. no_read_refused _ _ _ _ _ c.deliver_refusal.result unread written c.in-Err.why c.deliver_refusal.ensures.ends file (refused_by c.in-Err.why (Read file) is))

pub returns-in-Err-clause-named : goal.returns-in-Err-clause-named
returns-in-Err-clause-named g c = λ unread below.
    refusal_named (by_router c.args.router.now) _ _ _ _ c.args.config.now _ _ _ _ c.deliver_refusal.result unread c.in-Err.why
    (refused_loads (by_router c.args.router.now) _ _ _ _ _ _ c.args.config.now c.in-Err.why c.in-Err.ensures.told c.in-Err.ensures.files) c.deliver_refusal.ensures.ends
