use Rattle.std.proofs.Common.{sym, ◌∙◌}
use Rattle.conf_rules.specs.Names.{unknown_acls_of_port}
use Rattle.conf_rules.proofs.First.{walked}
use Rattle.conf_names.proofs.unknown.unknown_acls_of_dp.Goals as goal

pub returns-in-Some : goal.returns-in-Some
returns-in-Some c =
    (walked (unknown_acls_of_port c.args.acls.now c.args.dp.now) c.args.dp.now.ports _ c.loop-port.port-index c.port-item.result _ c.as_slice-port-items.ensures c.loop-port-test.true c.port-item.is c.loop-port.invariant).1
    c.in-Some.found (sym c.in_ok-found.ensures ∙ c.in-Some.is)

pub loop-port-preserved : goal.loop-port-preserved
loop-port-preserved c =
    (walked (unknown_acls_of_port c.args.acls.now c.args.dp.now) c.args.dp.now.ports _ c.loop-port.port-index c.port-item.result _ c.as_slice-port-items.ensures c.loop-port-test.true c.port-item.is c.loop-port.invariant).0
    (sym c.in_ok-found.ensures ∙ c.in_default.is)
