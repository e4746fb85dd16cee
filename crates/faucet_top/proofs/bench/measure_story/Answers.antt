use Rattle.faucet_top.proofs.BenchLemmas.{measured_given, unmeasured_given}
use Rattle.faucet_top.proofs.bench.measure_story.Goals as goal

pub returns-in-Ok-clause-gives : goal.returns-in-Ok-clause-gives
returns-in-Ok-clause-gives g c =
    measured_given c.args.hosts _ _ (g.E.Sink.wrote c.args.err.now) (g.E.Sink.wrote c.args.err.now) _ _ (g.E.Sink.faults c.args.err.now) (g.E.Sink.faults c.args.err.now) c.deliver_measured.result
    c.in-Ok.measured c.in-Ok.ensures c.deliver_measured.ensures.ends

pub returns-in-Err-clause-gives : goal.returns-in-Err-clause-gives
returns-in-Err-clause-gives g c =
    unmeasured_given c.args.hosts (g.O.Sink.wrote c.args.out.now) (g.O.Sink.wrote c.args.out.now) _ _ (g.O.Sink.faults c.args.out.now) (g.O.Sink.faults c.args.out.now) _ _ c.deliver_out_of_memory.result
    c.deliver_out_of_memory.ensures.ends
