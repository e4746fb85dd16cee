use Rattle.conf_load.specs.Loaded.{loaded}
use Rattle.std.proofs.Common.{Some, Ok, Err, ap}
use Rattle.conf_gather.specs.declared.refused.LoadRefused.TheVariants.{Read, Memory}
use Rattle.faucet_top.proofs.CheckLemmas.{accepted_loads, cut, memory_loads, refused, refused_loads}
use Rattle.faucet_top.proofs.ReadLemmas.{no_read_refused, refused_by}
use Rattle.faucet_top.proofs.check.check_file.Goals as goal

pub returns-in-Err-clause-checked : goal.returns-in-Err-clause-checked
returns-in-Err-clause-checked g c = (
  Err c.in-Err.why,
  refused_loads loaded _ _ _ _ _ _ _ c.in-Err.why (rw c.as_str.ensures at c.in-Err.ensures.told) c.in-Err.ensures.files,
  λ more. refused c.args.name.now (g.O.Sink.wrote c.args.out.now) (g.O.Sink.wrote c.args.out.now) _ _ (g.O.Sink.faults c.args.out.now) (g.O.Sink.faults c.args.out.now) _ _ c.in-Err.why c.deliver_refusal.result
      (rw c.as_str-in-Err.ensures at c.deliver_refusal.ensures.ends),
)

pub returns-in_default-clause-checked : goal.returns-in_default-clause-checked
returns-in_default-clause-checked g c = (
  Err Memory,
  memory_loads loaded _ _ _ _ c.args.name.now,
  λ more. refused c.args.name.now (g.O.Sink.wrote c.args.out.now) (g.O.Sink.wrote c.args.out.now) _ _ (g.O.Sink.faults c.args.out.now) (g.O.Sink.faults c.args.out.now) _ _ Memory c.deliver_out_of_memory.result c.deliver_out_of_memory.ensures.ends,
)

pub returns-clause-checked : goal.returns-clause-checked
returns-clause-checked g c = (
  Ok c.in-Ok.conf,
  accepted_loads loaded _ _ _ _ _ c.in-Ok.conf (rw c.as_str.ensures at c.in-Ok.ensures.told),
  λ more. cut c.args.name.now _ _ (g.E.Sink.wrote c.args.err.now) (g.E.Sink.wrote c.args.err.now) _ _ (g.E.Sink.faults c.args.err.now) (g.E.Sink.faults c.args.err.now) c.in-Ok.conf
      (rw (c.as_slice.ensures, c.in-Ok-make_line.ensures) at c.in-Err-write_all.ensures.err) c.in-Err-write_all.ensures.failed more,
)

pub returns-in-Err-clause-no_read_fault : goal.returns-in-Err-clause-no_read_fault
returns-in-Err-clause-no_read_fault g c = λ unread written.
    c.in-Err.ensures.files.no_fault (λ file is. no_read_refused _ _ _ _ _ c.deliver_refusal.result (λ e. unread (ap Some e)) (λ e. written (ap Some e)) c.in-Err.why c.deliver_refusal.ensures.ends file (refused_by c.in-Err.why (Read file) is))
