use Rattle.std.proofs.Common.{sym, ◌∙◌}
use Rattle.conf_shape.specs.declared.raw.RawPort.{RawPort}
use Rattle.conf_types.specs.declared.datapath.Port.{Port}
use Rattle.conf_rules.specs.Limits.{many_rules_on_port}
use Rattle.conf_rules.proofs.Beside.{walked_made}
use Rattle.conf_limits.proofs.limits.many_rules_on_ports.Goals as goal

pub returns-in-Some-2 : goal.returns-in-Some-2
returns-in-Some-2 c =
    (walked_made (many_rules_on_port c.args.acls.now) (λ (p : RawPort × Port). record { raw_dp = c.args.raw_dp.now; dp = c.args.dp.now; raw = p.0; port = p.1 }) c.args.raw_dp.now.ports _ c.args.dp.now.ports _ c.loop-i.i c.raw-item.result c.in-Some.port.now _ c.as_slice-raw-items.ensures c.loop-i-test.true c.raw-item.is c.as_slice-ports.ensures c.in-Some.ensures.lookup.3.0 c.in-Some.ensures.lookup.1 c.loop-i.invariant).1
    c.in-Some-2.found (sym c.in_ok-found.ensures ∙ c.in-Some-2.is)

pub loop-i-preserved : goal.loop-i-preserved
loop-i-preserved c =
    (walked_made (many_rules_on_port c.args.acls.now) (λ (p : RawPort × Port). record { raw_dp = c.args.raw_dp.now; dp = c.args.dp.now; raw = p.0; port = p.1 }) c.args.raw_dp.now.ports _ c.args.dp.now.ports _ c.loop-i.i c.raw-item.result c.in-Some.port.now _ c.as_slice-raw-items.ensures c.loop-i-test.true c.raw-item.is c.as_slice-ports.ensures c.in-Some.ensures.lookup.3.0 c.in-Some.ensures.lookup.1 c.loop-i.invariant).0
    (sym c.in_ok-found.ensures ∙ c.in_default-2.is)
