use Rattle.std.proofs.Common.{codes, ◌∷◌, [], sym, ◌∙◌}
use Rattle.conf_rules.specs.Ports.{wrong_rule}
use Rattle.conf_rules.proofs.First.{walked_each}
use Rattle.conf_names.proofs.targets.wrong_acl.Goals as goal

pub returns-in-Some : goal.returns-in-Some
returns-in-Some c =
    (walked_each (codes "acls" ∷ c.args.acl.now.name ∷ []) (wrong_rule c.args.targets.now.conf.now c.args.acl.now) c.args.acl.now.rules _ c.loop-i.i c.rule-item.result _ c.as_slice-rule-items.ensures c.loop-i-test.true c.rule-item.is c.loop-i.invariant).1
    c.in-Some.found (sym c.in_ok-found.ensures ∙ c.in-Some.is)

pub loop-i-preserved : goal.loop-i-preserved
loop-i-preserved c =
    (walked_each (codes "acls" ∷ c.args.acl.now.name ∷ []) (wrong_rule c.args.targets.now.conf.now c.args.acl.now) c.args.acl.now.rules _ c.loop-i.i c.rule-item.result _ c.as_slice-rule-items.ensures c.loop-i-test.true c.rule-item.is c.loop-i.invariant).0
    (sym c.in_ok-found.ensures ∙ c.in_default.is)
