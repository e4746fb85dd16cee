use Rattle.std.proofs.Common.{◌≡◌, ◌∙◌, Err, ap, sym, ℕ, List}
use Rattle.std.specs.Prelude.{IsErrOf}
use Rattle.fg_outside.specs.Counts.{Rose}
use Rattle.conf_gather.specs.declared.refused.LoadRefused.{LoadRefused}
use Rattle.conf_gather.specs.declared.refused.LoadRefused.TheVariants.{Read}
use Rattle.watch_hub.proofs.Gathering.{counts_same, finds_missing, finds_refused, is_refusal, IsRefusal, rose_before}
use Rattle.watch_hub.proofs.look.read_text.Goals as goal

other_err : {T : Type 0} (e : LoadRefused) (file : List ℕ) → IsErrOf {T = T} (Err e) (Read file) → e ≡ Read file
other_err e file err = cc

pub returns-in-Missing-clause-finds : goal.returns-in-Missing-clause-finds
returns-in-Missing-clause-finds g c =
    let e = c.in-Err.refused in
    finds_missing (g.F.Files.contents c.gather.new.files) (g.F.Files.contents c.args.files.now) c.args.name.now
    (Rose (g.F.Files.faults c.args.files.now) (g.F.Files.faults c.gather.new.files)) (Rose (g.F.Files.absences c.args.files.now) (g.F.Files.absences c.gather.new.files))
    e (sym c.cause_of.ensures ∙ c.in-Missing.is) c.gather.ensures.files.same_contents c.in-Err.ensures.told
    (λ file is. c.in-Err.ensures.files.read file (ap (λ (x : LoadRefused). Err x) is)) (λ file is. c.in-Err.ensures.files.absent file (ap (λ (x : LoadRefused). Err x) is))

pub returns-in-Refused-clause-finds : goal.returns-in-Refused-clause-finds
returns-in-Refused-clause-finds g c =
    let e = c.in-Err.refused in
    finds_refused (g.F.Files.contents c.read_front.new.files) (g.F.Files.contents c.gather.new.files) (g.F.Files.contents c.args.files.now) c.args.name.now
    (Rose (g.F.Files.faults c.args.files.now) (g.F.Files.faults c.read_front.new.files)) (Rose (g.F.Files.absences c.args.files.now) (g.F.Files.absences c.read_front.new.files))
    (Rose (g.F.Files.faults c.gather.new.files) (g.F.Files.faults c.read_front.new.files)) (Rose (g.F.Files.absences c.gather.new.files) (g.F.Files.absences c.read_front.new.files))
    (rose_before (g.F.Files.faults c.args.files.now) (g.F.Files.faults c.gather.new.files) (g.F.Files.faults c.read_front.new.files) c.gather.ensures.files.counted_faults)
    (rose_before (g.F.Files.absences c.args.files.now) (g.F.Files.absences c.gather.new.files) (g.F.Files.absences c.read_front.new.files) c.gather.ensures.files.counted_absences)
    e c.read_front.result (is_refusal e (sym c.cause_of.ensures ∙ c.in-Refused.is)) c.read_front.ensures.contents c.gather.ensures.files.same_contents c.in-Err.ensures.told
    c.read_front.ensures.front c.read_front.ensures.missing c.read_front.ensures.unread c.read_front.ensures.none

pub returns-in-Refused-clause-no_fault : goal.returns-in-Refused-clause-no_fault
returns-in-Refused-clause-no_fault g c =
    let e = c.in-Err.refused in
    let refuses : IsRefusal e = is_refusal e (sym c.cause_of.ensures ∙ c.in-Refused.is) in
    counts_same c.read_front.result (g.F.Files.faults c.args.files.now) (g.F.Files.faults c.gather.new.files) (g.F.Files.faults c.read_front.new.files)
    (c.in-Err.ensures.files.no_fault (λ file err. refuses.not_read file (other_err e file err))) c.read_front.ensures.no_fault
