use Rattle.std.proofs.Common.{sym, ap, ◌∙◌}
use Rattle.conf_types.specs.Configuration.{Configuration}
use Rattle.conf_rules.specs.Places.{first}
use Rattle.conf_rules.specs.Ports.{wrong_acl}
use Rattle.conf_rules.proofs.First.{walked}
use Rattle.conf_names.proofs.targets.wrong_acl_ports.Goals as goal

pub returns-in-Some : goal.returns-in-Some
returns-in-Some c =
    let here = ap (λ (conf : Configuration). first (wrong_acl conf c.acl-item.result)) (sym c.in_ok-targets.ensures) in
    (walked (wrong_acl c.args.conf.now) c.args.ordered.now.acls _ c.loop-acl.acl-index c.acl-item.result _ c.as_slice-acl-items.ensures c.loop-acl-test.true c.acl-item.is c.loop-acl.invariant).1
    c.in-Some.found (here ∙ sym c.in_ok-found.ensures ∙ c.in-Some.is)

pub loop-acl-preserved : goal.loop-acl-preserved
loop-acl-preserved c =
    let here = ap (λ (conf : Configuration). first (wrong_acl conf c.acl-item.result)) (sym c.in_ok-targets.ensures) in
    (walked (wrong_acl c.args.conf.now) c.args.ordered.now.acls _ c.loop-acl.acl-index c.acl-item.result _ c.as_slice-acl-items.ensures c.loop-acl-test.true c.acl-item.is c.loop-acl.invariant).0
    (here ∙ sym c.in_ok-found.ensures ∙ c.in_default.is)
