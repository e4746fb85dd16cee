use Rattle.faucet_top.proofs.ReadLemmas.{memory_read, no_read_replayed, run_named}
use Rattle.faucet_top.proofs.ReplyLemmas.{memory_run, run_given}
use Rattle.faucet_top.proofs.replay.run_recording.Goals as goal

pub returns-in_default-clause-gives : goal.returns-in_default-clause-gives
returns-in_default-clause-gives g c = λ w stands.
    memory_run g.M.Machine.runs.works c.args.outlet w (g.F.Files.contents c.args.files) _ _ (g.O.Sink.wrote c.args.out.now) _ _ (g.O.Sink.faults c.args.out.now) _ _ c.args.recording.now
    c.deliver_out_of_memory.result c.deliver_out_of_memory.ensures.ends

pub returns-clause-gives : goal.returns-clause-gives
returns-clause-gives g c = λ w stands.
    let did = c.replay-replayed.ensures in
    run_given g.M.Machine.runs.works c.args.outlet w (g.F.Files.contents c.args.files) _ _ _ _ _ _ _ _ _ _ _ _ c.args.recording.now c.replay-replayed.result.0 c.deliver_replayed.result
    c.deliver_replayed.ensures.faults
    (record { missing = rw c.in-Ok.ensures at did.missing; there = rw c.in-Ok.ensures at did.there })
    (rw c.as_str.ensures at c.deliver_replayed.ensures.ends)
    (rw c.in-Ok.ensures at (did.replayed w stands)) did.write_fault did.no_write_fault

pub returns-clause-no_read_fault : goal.returns-clause-no_read_fault
returns-clause-no_read_fault g c = λ unread written below.
    c.replay-replayed.ensures.no_fault (no_read_replayed _ _ _ _ _ c.deliver_replayed.result unread written c.replay-replayed.result.0 c.deliver_replayed.ensures.ends) below

pub returns-in_default-clause-named : goal.returns-in_default-clause-named
returns-in_default-clause-named g c = λ w stands unread below. absurd (memory_read _ _ _ _ _ c.deliver_out_of_memory.result c.deliver_out_of_memory.ensures.ends unread)

pub returns-clause-named : goal.returns-clause-named
returns-clause-named g c = λ w stands unread below.
    let did = c.replay-replayed.ensures in
    run_named g.M.Machine.runs.works c.args.outlet (g.F.Files.contents c.args.files) _ _ c.args.recording.now w _ _ _ _ _ _ _ (g.F.Files.refused c.replay-replayed.result.1) c.replay-replayed.result.0 c.deliver_replayed.result
    (rw c.in-Ok.ensures at (did.replayed w stands)) (rw c.as_str.ensures at c.deliver_replayed.ensures.ends) unread (λ is. rw c.in-Ok.ensures at (did.named is below))
