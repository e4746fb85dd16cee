use Rattle.std.proofs.Common.{sym, ◌∙◌}
use Rattle.conf_rules.specs.Ports.{lacking_of_acl}
use Rattle.conf_rules.proofs.First.{walked}
use Rattle.conf_names.proofs.targets.lacking_rules.Goals as goal

pub returns-in-Some : goal.returns-in-Some
returns-in-Some c =
    (walked lacking_of_acl c.args.ordered.now.acls _ c.loop-acl.acl-index c.acl-item.result _ c.as_slice-acl-items.ensures c.loop-acl-test.true c.acl-item.is c.loop-acl.invariant).1
    c.in-Some.found (sym c.in_ok-found.ensures ∙ c.in-Some.is)

pub loop-acl-preserved : goal.loop-acl-preserved
loop-acl-preserved c =
    (walked lacking_of_acl c.args.ordered.now.acls _ c.loop-acl.acl-index c.acl-item.result _ c.as_slice-acl-items.ensures c.loop-acl-test.true c.acl-item.is c.loop-acl.invariant).0
    (sym c.in_ok-found.ensures ∙ c.in_default.is)
