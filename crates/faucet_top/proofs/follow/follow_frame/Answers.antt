use Rattle.std.proofs.Common.{◌≡◌, None, Some, sym, ◌∙◌, arith}
use Rattle.std.proofs.lemmas.Grind.{common_steps}
use Rattle.conf_gather.specs.declared.refused.LoadRefused.TheVariants.{Read}
use Rattle.conf_load.specs.Loaded.{loaded}
use Rattle.trace_story.specs.Entry.{missing_in}
use Rattle.faucet_top.specs.Follow.{traced_in}
use Rattle.faucet_top.proofs.CheckLemmas.{refused, refused_loads}
use Rattle.faucet_top.proofs.FollowLemmas.{followed_given, followed_named, followed_read, memory_given, missing_given, missing_read, packet_is, unloaded_given}
use Rattle.faucet_top.proofs.ReadLemmas.{memory_read, no_read_refused, refusal_named, refused_by}
use Rattle.faucet_top.proofs.follow.follow_frame.Goals as goal

-- ---- the configuration was refused

pub returns-in-Err-clause-gives : goal.returns-in-Err-clause-gives
returns-in-Err-clause-gives g c =
    let traced = traced_in c.args.asked.now in
    unloaded_given c.args.asked.now.how (g.F.Files.contents c.args.files) _ _ _ traced (g.O.Sink.wrote c.args.out.now) _ _ (g.O.Sink.faults c.args.out.now) _ _ c.deliver_refusal.result c.in-Err.why
    (refused_loads loaded _ _ _ _ _ _ traced.config c.in-Err.why (rw c.as_str-config.ensures at c.in-Err.ensures.told) c.in-Err.ensures.files)
    (refused traced.config (g.O.Sink.wrote c.args.out.now) (g.O.Sink.wrote c.args.out.now) _ _ (g.O.Sink.faults c.args.out.now) (g.O.Sink.faults c.args.out.now) _ _ c.in-Err.why c.deliver_refusal.result (rw c.as_str-config.ensures at c.deliver_refusal.ensures.ends))

pub returns-in-Err-clause-named : goal.returns-in-Err-clause-named
returns-in-Err-clause-named g c = λ unread below.
    refusal_named loaded _ _ _ _ c.as_str-config.result.now _ _ _ _ c.deliver_refusal.result unread c.in-Err.why
    (refused_loads loaded _ _ _ _ _ _ c.as_str-config.result.now c.in-Err.why c.in-Err.ensures.told c.in-Err.ensures.files) c.deliver_refusal.ensures.ends

pub returns-in-Err-clause-no_read_fault : goal.returns-in-Err-clause-no_read_fault
returns-in-Err-clause-no_read_fault g c = λ unread written below.
    c.in-Err.ensures.files.no_fault (λ file is. no_read_refused _ _ _ _ _ c.deliver_refusal.result unread written c.in-Err.why c.deliver_refusal.ensures.ends file (refused_by c.in-Err.why (Read file) is))

-- ---- it hasn't the datapath or the interface

pub returns-in-Some-clause-gives : goal.returns-in-Some-clause-gives
returns-in-Some-clause-gives g c =
    missing_given c.args.asked.now.how (g.F.Files.contents c.args.files) _ _ _ (traced_in c.args.asked.now) (g.O.Sink.wrote c.args.out.now) _ _ (g.O.Sink.faults c.args.out.now) _ _ c.deliver_missing.result
    c.in-Ok.conf (rw c.as_str-config.ensures at c.in-Ok.ensures.told) c.in-Some.missing (sym c.in-Some.is ∙ c.missing_in.ensures) c.deliver_missing.ensures.ends

pub returns-in-Some-clause-named : goal.returns-in-Some-clause-named
returns-in-Some-clause-named g c = λ unread below. absurd (missing_read _ _ _ _ _ c.deliver_missing.result c.deliver_missing.ensures.ends unread)

pub returns-in-Some-clause-no_read_fault : goal.returns-in-Some-clause-no_read_fault
returns-in-Some-clause-no_read_fault g c = λ unread written below. c.in-Ok.ensures.files.no_fault (λ file is. absurd cc)

-- ---- the packet of the frame

pub unreachable-requires : goal.unreachable-requires
unreachable-requires g c =
    let none : c.in-Ok-None.field-0 ≡ None = grind (arith, common_steps) in
    packet_is c.args.asked.now.frame.now c.in-Ok-None.field-0 (rw c.as_slice.ensures at c.in-Ok-None.ensures.packet) (rw c.as_slice.ensures at c.in-Ok-None.ensures.none) c.requires.typed none

pub returns-in-Err-packet_of-clause-gives : goal.returns-in-Err-packet_of-clause-gives
returns-in-Err-packet_of-clause-gives g c =
    memory_given c.args.asked.now.how (g.F.Files.contents c.args.files) _ _ _ (traced_in c.args.asked.now) (g.O.Sink.wrote c.args.out.now) _ _ (g.O.Sink.faults c.args.out.now) _ _ c.deliver_out_of_memory.result c.deliver_out_of_memory.ensures.ends

pub returns-in-Err-packet_of-clause-named : goal.returns-in-Err-packet_of-clause-named
returns-in-Err-packet_of-clause-named g c = λ unread below. absurd (memory_read _ _ _ _ _ c.deliver_out_of_memory.result c.deliver_out_of_memory.ensures.ends unread)

pub returns-in-Err-packet_of-clause-no_read_fault : goal.returns-in-Err-packet_of-clause-no_read_fault
returns-in-Err-packet_of-clause-no_read_fault g c = λ unread written below. c.in-Ok.ensures.files.no_fault (λ file is. absurd cc)

-- ---- what came of it

pub returns-clause-gives : goal.returns-clause-gives
returns-clause-gives g c =
    let asked = c.args.asked.now in
    let none : missing_in c.in-Ok.conf asked.dp.now asked.port ≡ None = grind (arith, common_steps) in
    let some : c.in-Ok-Some.field-0 ≡ Some c.in-Ok-Some.packet = grind (arith, common_steps) in
    let files = c.in-Ok.ensures.files in
    let did = c.follow-followed.ensures in
    followed_given asked.how (g.F.Files.contents c.args.files) _ _ _ _ _ _ files.counted_absences files.counted_faults _ (traced_in asked) _ _ _ _ _ _ _ _ _ c.in-Ok.conf c.in-Ok-Some.packet c.follow-followed.result.0
    (rw c.as_str-config.ensures at c.in-Ok.ensures.told) none (sym (rw c.as_slice.ensures at c.in-Ok-Some.ensures.packet) ∙ some) (rw files.same_contents at did.follows)
    (record { missing = rw files.same_contents at did.missing; there = rw files.same_contents at did.back.there }) c.deliver_followed.ensures.answer

pub returns-clause-named : goal.returns-clause-named
returns-clause-named g c = λ unread below.
    let kept = c.in-Ok.ensures.files.no_fault (λ file is. absurd cc) in
    followed_named c.args.asked.now.config.now c.args.asked.now.recording.now _ _ _ _ _ _ _ _ c.deliver_followed.result c.follow-followed.result.0 _ c.deliver_followed.ensures.answer unread
    (λ is. c.follow-followed.ensures.back.named is (rw kept below))

pub returns-clause-no_read_fault : goal.returns-clause-no_read_fault
returns-clause-no_read_fault g c = λ unread written below.
    let kept = c.in-Ok.ensures.files.no_fault (λ file is. absurd cc) in
    c.follow-followed.ensures.back.no_fault (followed_read c.args.asked.now.config.now c.args.asked.now.recording.now _ _ _ _ _ _ _ _ c.deliver_followed.result c.follow-followed.result.0 c.deliver_followed.ensures.answer unread written) (rw kept below) ∙ kept

pub returns-clause-contents : goal.returns-clause-contents
returns-clause-contents g c = c.follow-followed.ensures.back.same_contents ∙ c.in-Ok.ensures.files.same_contents

pub returns-clause-faults : goal.returns-clause-faults
returns-clause-faults g c = omega (arith, c.in-Ok.ensures.files.counted_faults, c.follow-followed.ensures.back.no_fewer_faults)

pub returns-clause-absences : goal.returns-clause-absences
returns-clause-absences g c = omega (arith, c.in-Ok.ensures.files.counted_absences, c.follow-followed.ensures.back.no_fewer_absences)
