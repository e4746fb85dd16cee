use Rattle.std.proofs.Common.{sym, subst}
use Rattle.fg_outside.specs.Counts.{Rose}
use Rattle.faucet_top.specs.declared.deliver.Status.TheVariants as statuses
use Rattle.faucet_top.specs.Given.{Checks}
use Rattle.faucet_top.specs.Status.{number_of_status}
use Rattle.faucet_top.proofs.CheckLemmas.{front_name, next_checked, last_checked}
use Rattle.faucet_top.proofs.ReadLemmas.{same_status}
use Rattle.faucet_top.proofs.check.+check_files.Goals as goal

pub returns-in-None-clause-checked : goal.returns-in-None-clause-checked
returns-in-None-clause-checked g t c =
    let front = front_name c.args.names.now c.name-item.result c.in-len1-up.len_at_least c.name-item.is in
    let did = c.in-None.ensures.checked in
    let ours = next_checked (g.F.Files.contents c.args.files.now) _ _ _ _ _ _ _ _ _ _ _ _ _ _ _ _ _ _ _ _ c.name-item.result _ (number_of_status c.check_files.result) did.0 did.1 did.2
    c.in-None.ensures.absences c.in-None.ensures.faults (rw c.in-None.ensures.contents at c.check_files.ensures.checked) in
    subst (λ names. Checks (g.F.Files.contents c.args.files.now) (Rose (g.F.Files.absences c.args.files.now) (g.F.Files.absences c.check_files.new.files)) (Rose (g.F.Files.faults c.args.files.now) (g.F.Files.faults c.check_files.new.files)) (g.F.Files.refused c.check_files.new.files) names
    (number_of_status c.check_files.result) (g.O.Sink.wrote c.args.out.now) (g.O.Sink.wrote c.check_files.new.out) (g.E.Sink.wrote c.args.err.now) (g.E.Sink.wrote c.check_files.new.err)
    (g.O.Sink.faults c.args.out.now) (g.O.Sink.faults c.check_files.new.out) (g.E.Sink.faults c.args.err.now) (g.E.Sink.faults c.check_files.new.err)) (sym front) ours

pub returns-in-Some-clause-checked : goal.returns-in-Some-clause-checked
returns-in-Some-clause-checked g t c =
    let front = front_name c.args.names.now c.name-item.result c.in-len1-up.len_at_least c.name-item.is in
    let did = c.in-Some.ensures.checked in
    let ours = last_checked (g.F.Files.contents c.args.files.now) (g.F.Files.absences c.args.files.now) (g.F.Files.absences c.check_file.new.files) (g.F.Files.absences c.check_file.new.files)
    (g.F.Files.faults c.args.files.now) (g.F.Files.faults c.check_file.new.files) (g.F.Files.faults c.check_file.new.files)
    (g.O.Sink.wrote c.args.out.now) (g.O.Sink.wrote c.check_file.new.out) (g.O.Sink.wrote c.check_file.new.out) (g.E.Sink.wrote c.args.err.now) (g.E.Sink.wrote c.check_file.new.err) (g.E.Sink.wrote c.check_file.new.err)
    (g.O.Sink.faults c.args.out.now) (g.O.Sink.faults c.check_file.new.out) (g.O.Sink.faults c.check_file.new.out) (g.E.Sink.faults c.args.err.now) (g.E.Sink.faults c.check_file.new.err) (g.E.Sink.faults c.check_file.new.err)
    (g.F.Files.refused c.check_file.new.files) (g.F.Files.refused c.check_file.new.files) c.name-item.result _ c.in-Some.status did.0 did.1 did.2 in
    subst (λ names. Checks (g.F.Files.contents c.args.files.now) (Rose (g.F.Files.absences c.args.files.now) (g.F.Files.absences c.check_file.new.files)) (Rose (g.F.Files.faults c.args.files.now) (g.F.Files.faults c.check_file.new.files)) (g.F.Files.refused c.check_file.new.files) names
    (number_of_status c.in-Some.status) (g.O.Sink.wrote c.args.out.now) (g.O.Sink.wrote c.check_file.new.out) (g.E.Sink.wrote c.args.err.now) (g.E.Sink.wrote c.check_file.new.err)
    (g.O.Sink.faults c.args.out.now) (g.O.Sink.faults c.check_file.new.out) (g.E.Sink.faults c.args.err.now) (g.E.Sink.faults c.check_file.new.err)) (sym front) ours

pub returns-in-Some-clause-no_read_fault : goal.returns-in-Some-clause-no_read_fault
returns-in-Some-clause-no_read_fault g t c = λ unread written.
    c.in-Some.ensures.no_read_fault (λ is. unread (same_status c.in-Some.status statuses.Unread is)) (λ is. written (same_status c.in-Some.status statuses.WriteFault is))
