use Rattle.std.proofs.Common.{inl, inr, refl}
use Rattle.conf_gather.specs.declared.refused.LoadRefused.TheVariants.{Read}
use Rattle.faucet_top.specs.Given.{speaking_with}
use Rattle.faucet_top.proofs.CheckLemmas.{accepted_loads, refused, refused_loads}
use Rattle.faucet_top.proofs.ReadLemmas.{no_read_refused, refused_by}
use Rattle.faucet_top.proofs.ReplayLemmas.{by_router}
use Rattle.faucet_top.proofs.SpeakLemmas.{hub_given, lacks_delivered}
use Rattle.faucet_top.proofs.bgp.speak_on_hub.Goals as goal

pub returns-in-Err-clause-replies : goal.returns-in-Err-clause-replies
returns-in-Err-clause-replies g c = (
  _,
  inl (
    inr (inl (
      c.in-Err.why,
      refused_loads (by_router c.args.router.now) _ _ _ _ _ _ _ c.in-Err.why c.in-Err.ensures.told c.in-Err.ensures.files,
      refl,
    )),
    refl,
  ),
  refused c.args.config.now (g.O.Sink.wrote c.args.out.now) (g.O.Sink.wrote c.args.out.now) _ _ (g.O.Sink.faults c.args.out.now) (g.O.Sink.faults c.args.out.now) _ _ c.in-Err.why c.deliver_refusal.result c.deliver_refusal.ensures.ends,
)

pub returns-in-Ok-Err-clause-replies : goal.returns-in-Ok-Err-clause-replies
returns-in-Ok-Err-clause-replies g c = (
  _,
  inl (
    inr (inr (
      c.in-Ok-Err.lacks,
      accepted_loads (by_router c.args.router.now) _ _ _ _ c.args.config.now _ (rw c.in-Ok-Err.field-0-is at c.in-Ok-Err.ensures.told),
      refl,
    )),
    refl,
  ),
  lacks_delivered c.args.config.now c.args.router.now (g.O.Sink.wrote c.args.out.now) _ _ (g.O.Sink.faults c.args.out.now) _ _ c.in-Ok-Err.lacks c.deliver_lacks.result c.deliver_lacks.ensures.ends,
)

pub returns-clause-replies : goal.returns-clause-replies
returns-clause-replies g c =
    let did = c.drive-drove.ensures in
    let peer = c.in-Ok-Ok.peer in
    hub_given g.H.Hub.may (g.F.Files.contents c.args.files.now) _ _ _ c.args.config.now c.args.router.now c.args.events c.args.hub.now c.drive-drove.new.hub _ _ _ _ _ _ _ _ _ _ peer c.drive-drove.result c.deliver_served.result
    c.deliver_served.ensures.faults
    (accepted_loads (by_router c.args.router.now) _ _ _ _ _ _ (rw c.in-Ok-Ok.field-0-is at c.in-Ok-Ok.ensures.told))
    c.deliver_served.ensures.ends (did.drove (speaking_with peer) c.speaker_for-machine.ensures) did.write_fault did.no_write_fault

pub returns-in-Err-clause-no_read_fault : goal.returns-in-Err-clause-no_read_fault
returns-in-Err-clause-no_read_fault g c = λ unread written.
    c.in-Err.ensures.files.no_fault (λ file is. no_read_refused _ _ _ _ _ c.deliver_refusal.result unread written c.in-Err.why c.deliver_refusal.ensures.ends file (refused_by c.in-Err.why (Read file) is))

pub returns-in-Ok-Err-clause-no_read_fault : goal.returns-in-Ok-Err-clause-no_read_fault
returns-in-Ok-Err-clause-no_read_fault g c = λ unread written. c.in-Ok-Err.ensures.files.no_fault (λ file is. absurd cc)

pub returns-clause-no_read_fault : goal.returns-clause-no_read_fault
returns-clause-no_read_fault g c = λ unread written. c.in-Ok-Ok.ensures.files.no_fault (λ file is. absurd cc)
