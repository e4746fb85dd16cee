use Rattle.std.proofs.Common.{refl, ◌∙◌}
use Rattle.fg_outside.proofs.LineLemmas.{on_err}
use Rattle.probe_hub.proofs.Saying.{says_next, says_none, says_part}
use Rattle.probe_hub.proofs.probe_hub.say_all.Goals as goal

pub loop-probe-init : goal.loop-probe-init
loop-probe-init g c = record { says = says_none g.H.Hub.may c.args.hub.now; faults = refl }

pub loop-probe-preserved : goal.loop-probe-preserved
loop-probe-preserved g c = record {
  says =
      says_next g.H.Hub.may c.args.hub.now c.loop-probe.hub c.say_one.new.hub c.args.probes.now c.loop-probe.probe-index c.probe-item.result c.loop-probe-test.true c.probe-item.is
      c.loop-probe.invariant.says c.in_ok-say_one.ensures.ok;
  faults = c.in_ok-say_one.ensures.faults ∙ c.loop-probe.invariant.faults;
}

pub returns-in_err-say_one-clause-err : goal.returns-in_err-say_one-clause-err
returns-in_err-say_one-clause-err g c =
    on_err c.from_residual.result
    (says_part g.H.Hub.may c.args.hub.now c.loop-probe.hub c.say_one.new.hub c.args.probes.now c.loop-probe.probe-index c.probe-item.result c.loop-probe-test.true c.probe-item.is
    c.loop-probe.invariant.says c.in_err-say_one.ensures.err)
