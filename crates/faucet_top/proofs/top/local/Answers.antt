use Rattle.std.proofs.Common.{◌≡◌, None, Some, ap, sym, ◌∙◌}
use Rattle.command_line.specs.declared.meaning.Job.{Job}
use Rattle.faucet_top.specs.Status.{number_of_status}
use Rattle.faucet_top.proofs.ReadLemmas.{unread_by_number}
use Rattle.faucet_top.proofs.TopLemmas as by
use Rattle.faucet_top.proofs.top.local.Goals as goal

pub returns-clause-told : goal.returns-clause-told
returns-clause-told g c = by.told (Some c.args.job.now) _ _ _ _ c.number.result _ _ _ _ _ _ _ _ (rw (← c.number.ensures) at c.do_job-status.ensures.gives)

pub returns-clause-no_hub : goal.returns-clause-no_hub
returns-clause-no_hub g c = by.no_hub (Some c.args.job.now) _ _ _ _ c.number.result _ _ _ _ _ _ _ _ (rw (← c.number.ensures) at c.do_job-status.ensures.gives)

pub returns-clause-unread : goal.returns-clause-unread
returns-clause-unread g c = by.unread_only (Some c.args.job.now) _ _ _ _ c.number.result _ _ _ _ _ _ _ _ (rw (← c.number.ensures) at c.do_job-status.ensures.gives)

pub returns-clause-write_fault : goal.returns-clause-write_fault
returns-clause-write_fault g c = by.write_fault (Some c.args.job.now) _ _ _ _ c.number.result _ _ _ _ _ _ _ _ (rw (← c.number.ensures) at c.do_job-status.ensures.gives)

pub returns-clause-no_write_fault : goal.returns-clause-no_write_fault
returns-clause-no_write_fault g c = by.kept (Some c.args.job.now) _ _ _ _ c.number.result _ _ _ _ _ _ _ _ (rw (← c.number.ensures) at c.do_job-status.ensures.gives)

pub returns-clause-no_read_fault : goal.returns-clause-no_read_fault
returns-clause-no_read_fault g c = λ unread written.
    c.do_job-status.ensures.no_read_fault (λ is. unread (c.number.ensures ∙ ap number_of_status is)) (λ is. written (c.number.ensures ∙ ap number_of_status is))

pub returns-clause-named : goal.returns-clause-named
returns-clause-named g c = λ reads three.
    c.do_job-status.ensures.named reads (unread_by_number _ (sym c.number.ensures ∙ three))

some_is_job : {j : Job} → Some j ≡ None → ⊥
some_is_job is = cc

pub returns-clause-usage : goal.returns-clause-usage
returns-clause-usage g c = λ one. some_is_job (by.usage_only (Some c.args.job.now) _ _ _ _ c.number.result _ _ _ _ _ _ _ _ (rw (← c.number.ensures) at c.do_job-status.ensures.gives) one)

pub returns-clause-checked : goal.returns-clause-checked
returns-clause-checked g c = λ names held is. by.checked (Some c.args.job.now) _ _ _ _ c.number.result _ _ _ _ _ _ _ _ (rw (← c.number.ensures) at c.do_job-status.ensures.gives) names held (ap (λ (j : Job). Some j) is)

pub returns-clause-opened : goal.returns-clause-opened
returns-clause-opened g c = λ config dp held is. by.opened (Some c.args.job.now) _ _ _ _ c.number.result _ _ _ _ _ _ _ _ (rw (← c.number.ensures) at c.do_job-status.ensures.gives) c.a_loaded_configuration_is_valid.ensures c.an_opening_batch_opens_the_datapath.ensures config dp held (ap (λ (j : Job). Some j) is)

pub returns-clause-replayed : goal.returns-clause-replayed
returns-clause-replayed g c = λ config recording held is. by.replayed (Some c.args.job.now) _ _ _ _ c.number.result _ _ _ _ _ _ _ _ (rw (← c.number.ensures) at c.do_job-status.ensures.gives) c.a_loaded_configuration_is_valid.ensures c.whatever_happens_is_right.ensures config recording held (ap (λ (j : Job). Some j) is)

pub returns-clause-refused_record : goal.returns-clause-refused_record
returns-clause-refused_record g c = λ config recording held is. by.refused_record (Some c.args.job.now) _ _ _ _ c.number.result _ _ _ _ _ _ _ _ (rw (← c.number.ensures) at c.do_job-status.ensures.gives) c.a_loaded_configuration_is_valid.ensures c.whatever_happens_is_right.ensures config recording held (ap (λ (j : Job). Some j) is)

pub returns-clause-watched : goal.returns-clause-watched
returns-clause-watched g c = λ config recording held is. by.watched (Some c.args.job.now) _ _ _ _ c.number.result _ _ _ _ _ _ _ _ (rw (← c.number.ensures) at c.do_job-status.ensures.gives) c.what_is_printed_are_the_lines.ensures.recorded config recording held (ap (λ (j : Job). Some j) is)

pub returns-clause-watched_to : goal.returns-clause-watched_to
returns-clause-watched_to g c = λ config recording held is. by.watched_to (Some c.args.job.now) _ _ _ _ c.number.result _ _ _ _ _ _ _ _ (rw (← c.number.ensures) at c.do_job-status.ensures.gives) c.what_is_printed_are_the_lines.ensures.recorded config recording held (ap (λ (j : Job). Some j) is)

pub returns-clause-measured : goal.returns-clause-measured
returns-clause-measured g c = λ hosts is. by.story_measured (Some c.args.job.now) _ _ _ _ c.number.result _ _ _ _ _ _ _ _ (rw (← c.number.ensures) at c.do_job-status.ensures.gives) c.whatever_happens_is_right.ensures c.the_configuration_is_valid.ensures hosts (ap (λ (j : Job). Some j) is)

pub returns-clause-followed : goal.returns-clause-followed
returns-clause-followed g c = λ how traced held is told. by.frame_followed (Some c.args.job.now) _ _ _ _ c.number.result _ _ _ _ _ _ _ _ (rw (← c.number.ensures) at c.do_job-status.ensures.gives) c.a_loaded_configuration_is_valid.ensures c.whatever_happens_is_right.ensures how traced held (ap (λ (j : Job). Some j) is) told

pub returns-clause-not_ready : goal.returns-clause-not_ready
returns-clause-not_ready g c = λ how traced held is told. by.frame_waits (Some c.args.job.now) _ _ _ _ c.number.result _ _ _ _ _ _ _ _ (rw (← c.number.ensures) at c.do_job-status.ensures.gives) c.a_loaded_configuration_is_valid.ensures c.whatever_happens_is_right.ensures how traced held (ap (λ (j : Job). Some j) is) told

pub returns-clause-cut_short : goal.returns-clause-cut_short
returns-clause-cut_short g c = λ how traced held is told. by.frame_cut (Some c.args.job.now) _ _ _ _ c.number.result _ _ _ _ _ _ _ _ (rw (← c.number.ensures) at c.do_job-status.ensures.gives) c.a_loaded_configuration_is_valid.ensures c.whatever_happens_is_right.ensures how traced held (ap (λ (j : Job). Some j) is) told

pub returns-clause-spoken : goal.returns-clause-spoken
returns-clause-spoken g c = λ config router recording held is. by.spoken (Some c.args.job.now) _ _ _ _ c.number.result _ _ _ _ _ _ _ _ (rw (← c.number.ensures) at c.do_job-status.ensures.gives) c.a_text_is_new.ensures.accepted config router recording held (ap (λ (j : Job). Some j) is)

pub returns-clause-spoken_to : goal.returns-clause-spoken_to
returns-clause-spoken_to g c = λ config router recording held is. by.spoken_to (Some c.args.job.now) _ _ _ _ c.number.result _ _ _ _ _ _ _ _ (rw (← c.number.ensures) at c.do_job-status.ensures.gives) c.a_text_is_new.ensures.accepted config router recording held (ap (λ (j : Job). Some j) is)
