use Rattle.std.proofs.Common.{rules, Bool, ◌++◌, sym, ◌∙◌}
use Rattle.conf_resolve.specs.InOrder.{port_site}
use Rattle.conf_shape.specs.declared.raw.RawPort.{RawPort}
use Rattle.conf_shape.specs.declared.refused.ConfCause.TheVariants.{Duplicate}
use Rattle.conf_rules.specs.Names.{number_site}
use Rattle.conf_rules.specs.Places.{fault_if, name_site}
use Rattle.conf_rules.proofs.Earlier.{walked_seen}
use Rattle.conf_names.proofs.names.repeated_ports_of.Goals as goal

pub returns-in-Some : goal.returns-in-Some
returns-in-Some c =
    (walked_seen (λ (p : RawPort) (a b : Bool). fault_if a Duplicate (number_site c.args.dp.now p) ++ fault_if b Duplicate (name_site (port_site c.args.dp.now p) p.names)) (λ p. p.no) (λ p. p.names.name) c.args.dp.now.ports _ c.loop-port.port-index c.port-item.result _ _ _ _ _ _ _ _
    c.as_slice-port-items.ensures c.loop-port-test.true c.port-item.is (search rules) c.loop-port.invariant c.in_ok-number.ensures.was c.in_ok-number.ensures.is c.in_ok-name.ensures.was c.in_ok-name.ensures.is).0.1
    c.in-Some.found (sym c.in_ok-found.ensures ∙ c.in-Some.is)

pub loop-port-preserved : goal.loop-port-preserved
loop-port-preserved c =
    let step = walked_seen (λ (p : RawPort) (a b : Bool). fault_if a Duplicate (number_site c.args.dp.now p) ++ fault_if b Duplicate (name_site (port_site c.args.dp.now p) p.names)) (λ p. p.no) (λ p. p.names.name) c.args.dp.now.ports _ c.loop-port.port-index c.port-item.result _ _ _ _ _ _ _ _
    c.as_slice-port-items.ensures c.loop-port-test.true c.port-item.is (search rules) c.loop-port.invariant c.in_ok-number.ensures.was c.in_ok-number.ensures.is c.in_ok-name.ensures.was c.in_ok-name.ensures.is in
    (step.0.0 (sym c.in_ok-found.ensures ∙ c.in_default.is), step.1, step.2)
