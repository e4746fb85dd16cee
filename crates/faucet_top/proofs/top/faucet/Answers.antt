use Rattle.command_line.specs.Meaning.{meaning}
use Rattle.faucet_top.proofs.ServedLemmas as by
use Rattle.faucet_top.proofs.top.faucet.Goals as goal

pub returns-clause-told : goal.returns-clause-told
returns-clause-told g c = by.told g.H.Hub.may g.F.Files.contents g.F.Files.faults _ _ _ (meaning c.args.words.now) c.args.hub _ c.args.files _ _ _ _ _ _ _ _ _ _ c.answer_words.ensures.gives

pub returns-clause-usage : goal.returns-clause-usage
returns-clause-usage g c = by.usage_only g.H.Hub.may g.F.Files.contents g.F.Files.faults _ _ _ (meaning c.args.words.now) c.args.hub _ c.args.files _ _ _ _ _ _ _ _ _ _ c.answer_words.ensures.gives

pub returns-clause-no_meaning : goal.returns-clause-no_meaning
returns-clause-no_meaning g c = by.no_meaning g.H.Hub.may g.F.Files.contents g.F.Files.faults _ _ _ (meaning c.args.words.now) c.args.hub _ c.args.files _ _ _ _ _ _ _ _ _ _ c.answer_words.ensures.gives

pub returns-clause-unread : goal.returns-clause-unread
returns-clause-unread g c = by.unread_only g.H.Hub.may g.F.Files.contents g.F.Files.faults _ _ _ (meaning c.args.words.now) c.args.hub _ c.args.files _ _ _ _ _ _ _ _ _ _ c.answer_words.ensures.gives

pub returns-clause-unasked : goal.returns-clause-unasked
returns-clause-unasked g c = by.unasked g.H.Hub.may g.F.Files.contents g.F.Files.faults _ _ _ (meaning c.args.words.now) c.args.hub _ c.args.files _ _ _ _ _ _ _ _ _ _ c.answer_words.ensures.gives c.answer_words.ensures.hub

pub returns-clause-write_fault : goal.returns-clause-write_fault
returns-clause-write_fault g c = by.write_fault g.H.Hub.may g.F.Files.contents g.F.Files.faults _ _ _ (meaning c.args.words.now) c.args.hub _ c.args.files _ _ _ _ _ _ _ _ _ _ c.answer_words.ensures.gives

pub returns-clause-no_write_fault : goal.returns-clause-no_write_fault
returns-clause-no_write_fault g c = by.kept g.H.Hub.may g.F.Files.contents g.F.Files.faults _ _ _ (meaning c.args.words.now) c.args.hub _ c.args.files _ _ _ _ _ _ _ _ _ _ c.answer_words.ensures.gives

pub returns-clause-checked : goal.returns-clause-checked
returns-clause-checked g c = by.checked g.H.Hub.may g.F.Files.contents g.F.Files.faults _ _ _ (meaning c.args.words.now) c.args.hub _ c.args.files _ _ _ _ _ _ _ _ _ _ c.answer_words.ensures.gives

pub returns-clause-opened : goal.returns-clause-opened
returns-clause-opened g c = by.opened g.H.Hub.may g.F.Files.contents g.F.Files.faults _ _ _ (meaning c.args.words.now) c.args.hub _ c.args.files _ _ _ _ _ _ _ _ _ _ c.answer_words.ensures.gives c.a_loaded_configuration_is_valid.ensures c.an_opening_batch_opens_the_datapath.ensures

pub returns-clause-replayed : goal.returns-clause-replayed
returns-clause-replayed g c = by.replayed g.H.Hub.may g.F.Files.contents g.F.Files.faults _ _ _ (meaning c.args.words.now) c.args.hub _ c.args.files _ _ _ _ _ _ _ _ _ _ c.answer_words.ensures.gives c.a_loaded_configuration_is_valid.ensures c.whatever_happens_is_right.ensures

pub returns-clause-refused_record : goal.returns-clause-refused_record
returns-clause-refused_record g c = by.refused_record g.H.Hub.may g.F.Files.contents g.F.Files.faults _ _ _ (meaning c.args.words.now) c.args.hub _ c.args.files _ _ _ _ _ _ _ _ _ _ c.answer_words.ensures.gives c.a_loaded_configuration_is_valid.ensures c.whatever_happens_is_right.ensures

pub returns-clause-served : goal.returns-clause-served
returns-clause-served g c = by.served g.H.Hub.may g.F.Files.contents g.F.Files.faults _ _ _ (meaning c.args.words.now) c.args.hub _ c.args.files _ _ _ _ _ _ _ _ _ _ c.answer_words.ensures.gives c.a_loaded_configuration_is_valid.ensures c.whatever_happens_is_right.ensures

pub returns-clause-completes : goal.returns-clause-completes
returns-clause-completes g c = λ config events reload_ms listen held conf is told_so accepted no_read no_hub no_out no_err.
    by.completes g.H.Hub.may g.F.Files.contents g.F.Files.faults _ _ _ (meaning c.args.words.now) c.args.hub _ c.args.files _ _ _ _ _ _ _ _ _ _ c.answer_words.ensures.gives
    (λ six. no_hub (c.answer_words.ensures.hub_fault six)) no_read no_out no_err config events reload_ms listen held conf is told_so accepted

pub returns-clause-watched : goal.returns-clause-watched
returns-clause-watched g c = by.watched g.H.Hub.may g.F.Files.contents g.F.Files.faults _ _ _ (meaning c.args.words.now) c.args.hub _ c.args.files _ _ _ _ _ _ _ _ _ _ c.answer_words.ensures.gives c.what_is_printed_are_the_lines.ensures.recorded c.what_is_printed_are_the_lines.ensures.served

pub returns-clause-watched_to : goal.returns-clause-watched_to
returns-clause-watched_to g c = by.watched_to g.H.Hub.may g.F.Files.contents g.F.Files.faults _ _ _ (meaning c.args.words.now) c.args.hub _ c.args.files _ _ _ _ _ _ _ _ _ _ c.answer_words.ensures.gives c.what_is_printed_are_the_lines.ensures.recorded c.what_is_printed_are_the_lines.ensures.served

pub returns-clause-hub_watched : goal.returns-clause-hub_watched
returns-clause-hub_watched g c = by.hub_watched g.H.Hub.may g.F.Files.contents g.F.Files.faults _ _ _ (meaning c.args.words.now) c.args.hub _ c.args.files _ _ _ _ _ _ _ _ _ _ c.answer_words.ensures.gives c.what_is_printed_are_the_lines.ensures.recorded c.what_is_printed_are_the_lines.ensures.served

pub returns-clause-gauge_completes : goal.returns-clause-gauge_completes
returns-clause-gauge_completes g c = λ config events listen held conf is told_so accepted no_read no_hub no_out no_err.
    by.gauge_completes g.H.Hub.may g.F.Files.contents g.F.Files.faults _ _ _ (meaning c.args.words.now) c.args.hub _ c.args.files _ _ _ _ _ _ _ _ _ _ c.answer_words.ensures.gives
    (λ six. no_hub (c.answer_words.ensures.hub_fault six)) no_read no_out no_err config events listen held conf is told_so accepted

pub returns-clause-measured : goal.returns-clause-measured
returns-clause-measured g c = by.story_measured g.H.Hub.may g.F.Files.contents g.F.Files.faults _ _ _ (meaning c.args.words.now) c.args.hub _ c.args.files _ _ _ _ _ _ _ _ _ _ c.answer_words.ensures.gives c.whatever_happens_is_right.ensures c.the_configuration_is_valid.ensures

pub returns-clause-followed : goal.returns-clause-followed
returns-clause-followed g c = by.frame_followed g.H.Hub.may g.F.Files.contents g.F.Files.faults _ _ _ (meaning c.args.words.now) c.args.hub _ c.args.files _ _ _ _ _ _ _ _ _ _ c.answer_words.ensures.gives c.a_loaded_configuration_is_valid.ensures c.whatever_happens_is_right.ensures

pub returns-clause-not_ready : goal.returns-clause-not_ready
returns-clause-not_ready g c = by.frame_waits g.H.Hub.may g.F.Files.contents g.F.Files.faults _ _ _ (meaning c.args.words.now) c.args.hub _ c.args.files _ _ _ _ _ _ _ _ _ _ c.answer_words.ensures.gives c.a_loaded_configuration_is_valid.ensures c.whatever_happens_is_right.ensures

pub returns-clause-cut_short : goal.returns-clause-cut_short
returns-clause-cut_short g c = by.frame_cut g.H.Hub.may g.F.Files.contents g.F.Files.faults _ _ _ (meaning c.args.words.now) c.args.hub _ c.args.files _ _ _ _ _ _ _ _ _ _ c.answer_words.ensures.gives c.a_loaded_configuration_is_valid.ensures c.whatever_happens_is_right.ensures

pub returns-clause-spoken : goal.returns-clause-spoken
returns-clause-spoken g c = by.spoken g.H.Hub.may g.F.Files.contents g.F.Files.faults _ _ _ (meaning c.args.words.now) c.args.hub _ c.args.files _ _ _ _ _ _ _ _ _ _ c.answer_words.ensures.gives c.a_text_is_new.ensures.accepted

pub returns-clause-spoken_to : goal.returns-clause-spoken_to
returns-clause-spoken_to g c = by.spoken_to g.H.Hub.may g.F.Files.contents g.F.Files.faults _ _ _ (meaning c.args.words.now) c.args.hub _ c.args.files _ _ _ _ _ _ _ _ _ _ c.answer_words.ensures.gives c.a_text_is_new.ensures.accepted

pub returns-clause-hub_spoken : goal.returns-clause-hub_spoken
returns-clause-hub_spoken g c = by.hub_spoken g.H.Hub.may g.F.Files.contents g.F.Files.faults _ _ _ (meaning c.args.words.now) c.args.hub _ c.args.files _ _ _ _ _ _ _ _ _ _ c.answer_words.ensures.gives c.a_text_is_new.ensures.accepted

pub returns-clause-bgp_completes : goal.returns-clause-bgp_completes
returns-clause-bgp_completes g c = λ config router events listen held peer is told_so accepted no_read no_hub no_out no_err.
    by.bgp_completes g.H.Hub.may g.F.Files.contents g.F.Files.faults _ _ _ (meaning c.args.words.now) c.args.hub _ c.args.files _ _ _ _ _ _ _ _ _ _ c.answer_words.ensures.gives
    (λ six. no_hub (c.answer_words.ensures.hub_fault six)) no_read no_out no_err config router events listen held peer is told_so accepted
