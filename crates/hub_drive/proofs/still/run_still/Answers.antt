use Rattle.std.proofs.Common.{◌≡◌, true, false, refl, sym, ◌∙◌, arith}
use Rattle.std.proofs.lemmas.Grind.{common_steps}
use Rattle.std.specs.Result.{result_unwrap_or}
use Rattle.hub_drive.proofs.Replaying.{failed_write, fault_of_files, gives_back, named_unread, no_failed_read, reads_keep, unread_fault, was_read, was_there, why_not_read, why_unread}
use Rattle.hub_drive.proofs.Silence.{run_ended}
use Rattle.hub_drive.proofs.still.run_still.Goals as goal

pub returns-then-not-unwrap_or-clause-ended : goal.returns-then-not-unwrap_or-clause-ended
returns-then-not-unwrap_or-clause-ended g c = λ w stands.
    let is : result_unwrap_or c.is_there.result false ≡ false = grind (arith, common_steps) in
    why_unread c.is_there.result _ _ c.is_there.ensures.absent c.is_there.ensures.failed is

pub returns-clause-ended : goal.returns-clause-ended
returns-clause-ended g c = λ w stands.
    let runs = c.run_source-drove.ensures.runs w stands in
    let keeps = reads_keep g.F.Files.contents g.F.Files.faults g.F.Files.absences g.F.Files.refused c.new-source.result _ c.run_source-drove.ensures.reads in
    rw (c.replayed_by.ensures, c.into_files.ensures) (run_ended g.M.Machine.runs.works g.F.Files.contents g.F.Files.faults g.F.Files.absences g.F.Files.refused (g.F.Files.contents c.args.files) c.args.name w _ c.new-source.result _ _ runs
    (λ bytes tells. c.new-source.ensures.left bytes (rw c.is_there.ensures.contents tells)) _ _
    (λ fault. fault_of_files g.F.Files.contents g.F.Files.faults g.F.Files.absences g.F.Files.refused c.args.files c.new-source.result _ c.new-source.ensures.missing
    (rw c.new-source.ensures.files c.is_there.ensures.faults) (rw c.new-source.ensures.files c.is_there.ensures.absences) keeps (c.run_source-drove.ensures.fault fault)))

pub returns-clause-missing : goal.returns-clause-missing
returns-clause-missing g c = λ tells.
    let is : result_unwrap_or c.is_there.result false ≡ true = grind (arith, common_steps) in
    absurd (was_there c.is_there.result (c.is_there.ensures.missing (rw c.as_str.ensures tells)) is)

pub returns-clause-no_write_fault : goal.returns-clause-no_write_fault
returns-clause-no_write_fault g c = λ failed. c.run_source-drove.ensures.no_write_fault (failed_write _ _ (sym c.replayed_by.ensures ∙ failed))

pub returns-then-not-unwrap_or-clause-back : goal.returns-then-not-unwrap_or-clause-back
returns-then-not-unwrap_or-clause-back g c =
    let is : result_unwrap_or c.is_there.result false ≡ false = grind (arith, common_steps) in
    record {
      there = λ bytes tells unread. why_not_read c.is_there.result _ (c.is_there.ensures.there bytes (rw c.as_str.ensures tells)) c.is_there.ensures.failed is;
      named = λ unread below. rw c.as_str.ensures at (named_unread c.is_there.result _ c.is_there.ensures.absent_name c.is_there.ensures.failed_name is);
      no_fault = λ read below. absurd (read refl);
      same_contents = c.is_there.ensures.contents;
      no_fewer_faults = c.is_there.ensures.faults;
      no_fewer_absences = c.is_there.ensures.absences;
    }

pub returns-clause-back : goal.returns-clause-back
returns-clause-back g c =
    let keeps = reads_keep g.F.Files.contents g.F.Files.faults g.F.Files.absences g.F.Files.refused c.new-source.result _ c.run_source-drove.ensures.reads in
    let is : result_unwrap_or c.is_there.result false ≡ true = grind (arith, common_steps) in
    rw c.into_files.ensures (gives_back g.F.Files.contents g.F.Files.faults g.F.Files.absences g.F.Files.refused c.args.files c.new-source.result _ c.args.name
    c.new-source.ensures.missing c.new-source.ensures.name (rw c.new-source.ensures.files c.is_there.ensures.contents)
    (rw c.new-source.ensures.files (was_read c.is_there.result _ c.is_there.ensures.no_fault is)) (rw c.new-source.ensures.files c.is_there.ensures.absences) keeps _
    (λ unread. c.run_source-drove.ensures.fault (unread_fault _ _ (sym c.replayed_by.ensures ∙ unread)))
    (λ read. c.run_source-drove.ensures.no_fault (no_failed_read _ _ (λ unread. read (c.replayed_by.ensures ∙ unread)))))
