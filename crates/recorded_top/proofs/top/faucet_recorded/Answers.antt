use Rattle.std.proofs.Common.{◌≡◌, [], None, Some, inl, refl, sym, ap, ◌∙◌, arith}
use Rattle.std.proofs.lemmas.Grind.{common_steps}
use Rattle.conf_gather.specs.declared.refused.LoadRefused.TheVariants.{Memory}
use Rattle.command_line.specs.Recorded.{recorded_meaning}
use Rattle.faucet_top.specs.Status.{number_of_status}
use Rattle.faucet_top.proofs.CheckLemmas.{refused}
use Rattle.faucet_top.proofs.ReadLemmas.{hub_fault_by_number}
use Rattle.recorded_top.specs.RecordedAnswer.{recorded_usage}
use Rattle.recorded_top.proofs.Replying.{memory_given, usage_delivered}
use Rattle.recorded_top.proofs.top.faucet_recorded.Goals as goal

pub returns-in-Ok-None-clause-gives : goal.returns-in-Ok-None-clause-gives
returns-in-Ok-None-clause-gives g c =
    let none : recorded_meaning c.args.words.now ≡ None = grind (arith, common_steps) in
    rw (none, c.number-in-Ok-None.ensures) (
      recorded_usage,
      inl refl,
      usage_delivered (g.O.Sink.wrote c.args.out.now) _ _ (g.O.Sink.faults c.args.out.now) _ _ c.deliver_usage.result c.deliver_usage.ensures.ends,
      refl,
      refl,
      refl,
    )

pub returns-in-Err-clause-gives : goal.returns-in-Err-clause-gives
returns-in-Err-clause-gives g c =
    rw c.number-in-Err.ensures (memory_given g.H.Hub.may g.F.Files.contents g.F.Files.faults g.S.Sink.wrote _ _ _ c.args.hub c.args.files c.args.sink _ _ (recorded_meaning c.args.words.now)
    (refused [] (g.O.Sink.wrote c.args.out.now) (g.O.Sink.wrote c.args.out.now) _ _ (g.O.Sink.faults c.args.out.now) (g.O.Sink.faults c.args.out.now) _ _ Memory c.deliver_out_of_memory.result c.deliver_out_of_memory.ensures.ends))

pub returns-in-Ok-Some-clause-hub_fault : goal.returns-in-Ok-Some-clause-hub_fault
returns-in-Ok-Some-clause-hub_fault g c = λ six. c.serve_and_record-status.ensures.hub_fault (hub_fault_by_number _ (sym c.number.ensures ∙ six))

pub returns-in-Ok-Some-clause-no_hub_fault : goal.returns-in-Ok-Some-clause-no_hub_fault
returns-in-Ok-Some-clause-no_hub_fault g c = λ six four.
    c.serve_and_record-status.ensures.no_hub_fault (λ is. six (c.number.ensures ∙ ap number_of_status is)) (λ is. four (c.number.ensures ∙ ap number_of_status is))

pub returns-in-Ok-Some-clause-gives : goal.returns-in-Ok-Some-clause-gives
returns-in-Ok-Some-clause-gives g c =
    let some : recorded_meaning c.args.words.now ≡ Some c.in-Ok-Some.job = grind (arith, common_steps) in
    rw (some, c.number.ensures) c.serve_and_record-status.ensures.replies
