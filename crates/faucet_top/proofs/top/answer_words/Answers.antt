use Rattle.std.proofs.Common.{◌≡◌, [], Some, None, refl, sym, ◌∙◌, arith}
use Rattle.std.proofs.lemmas.Grind.{common_steps}
use Rattle.fg_outside.specs.Counts.{Rose}
use Rattle.conf_gather.specs.declared.refused.LoadRefused.TheVariants.{Memory}
use Rattle.command_line.specs.Meaning.{meaning}
use Rattle.faucet_top.proofs.CheckLemmas.{refused}
use Rattle.faucet_top.proofs.ReadLemmas.{memory_read, unread_by_number, usage_read}
use Rattle.faucet_top.proofs.ServedLemmas.{any_memory}
use Rattle.faucet_top.proofs.FollowLemmas.{has_frame}
use Rattle.faucet_top.proofs.TopLemmas.{usage_given}
use Rattle.faucet_top.proofs.top.answer_words.Goals as goal

pub returns-in-Ok-None-clause-gives : goal.returns-in-Ok-None-clause-gives
returns-in-Ok-None-clause-gives g c =
    let none : meaning c.args.words.now ≡ None = grind (arith, common_steps) in
    rw (none, c.number.ensures) (usage_given (g.F.Files.contents c.args.files) (Rose (g.F.Files.absences c.args.files) (g.F.Files.absences c.args.files)) (Rose (g.F.Files.faults c.args.files) (g.F.Files.faults c.args.files)) (g.F.Files.refused c.args.files) (g.O.Sink.wrote c.args.out.now) (g.O.Sink.wrote c.args.out.now) _ _ (g.O.Sink.faults c.args.out.now) (g.O.Sink.faults c.args.out.now) _ _
    None c.deliver_usage.result refl c.deliver_usage.ensures.ends)

pub returns-in-Err-clause-gives : goal.returns-in-Err-clause-gives
returns-in-Err-clause-gives g c =
    rw c.number-in-Err.ensures (any_memory g.H.Hub.may g.F.Files.contents g.F.Files.faults _ _ _ (meaning c.args.words.now) c.args.hub c.args.hub c.args.files c.args.files _ _ _ _ _ _ _ _ _ (meaning c.args.words.now)
    (refused [] (g.O.Sink.wrote c.args.out.now) (g.O.Sink.wrote c.args.out.now) _ _ (g.O.Sink.faults c.args.out.now) (g.O.Sink.faults c.args.out.now) _ _ Memory c.deliver_out_of_memory.result c.deliver_out_of_memory.ensures.ends) refl refl)

pub returns-in-Ok-None-clause-named : goal.returns-in-Ok-None-clause-named
returns-in-Ok-None-clause-named g c = λ reads three.
    absurd (usage_read _ _ _ _ _ c.deliver_usage.result c.deliver_usage.ensures.ends (unread_by_number _ (sym c.number.ensures ∙ three)))

pub returns-in-Err-clause-named : goal.returns-in-Err-clause-named
returns-in-Err-clause-named g c = λ reads three.
    absurd (memory_read _ _ _ _ _ c.deliver_out_of_memory.result c.deliver_out_of_memory.ensures.ends (unread_by_number _ (sym c.number-in-Err.ensures ∙ three)))

pub returns-in-Ok-Some-clause-named : goal.returns-in-Ok-Some-clause-named
returns-in-Ok-Some-clause-named g c =
    let some : meaning c.args.words.now ≡ Some c.in-Ok-Some.job = grind (arith, common_steps) in
    rw some c.do_any.ensures.named

pub do_any-requires : goal.do_any-requires
do_any-requires g c =
    let some : meaning c.args.words.now ≡ Some c.in-Ok-Some.job = grind (arith, common_steps) in
    record { frame = has_frame c.args.words.now c.in-Ok-Some.job (c.words_ask_for_what_is_written.ensures.asked c.args.words.now c.in-Ok-Some.job some) }
