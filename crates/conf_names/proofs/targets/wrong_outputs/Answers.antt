use Rattle.std.proofs.Common.{codes, ◌∷◌, [], sym, ◌∙◌, refl}
use Rattle.conf_rules.specs.Places.{nth, under}
use Rattle.conf_rules.specs.Ports.{actions_site, wrong_output}
use Rattle.conf_rules.proofs.First.{walked_each}
use Rattle.conf_names.proofs.targets.wrong_outputs.Goals as goal

pub returns-in-Some : goal.returns-in-Some
returns-in-Some c =
    (walked_each (under (actions_site (nth (codes "acls" ∷ c.args.acl.now.name ∷ []) c.args.at)) (codes "output")) (wrong_output c.args.targets.now.conf.now c.args.acl.now) c.args.outputs.now _ c.loop-i.i c.index-outputs-i.result _ refl c.loop-i-test.true c.index-outputs-i.is c.loop-i.invariant).1
    c.in-Some.found (sym c.in_ok-found.ensures ∙ c.in-Some.is)

pub loop-i-preserved : goal.loop-i-preserved
loop-i-preserved c =
    (walked_each (under (actions_site (nth (codes "acls" ∷ c.args.acl.now.name ∷ []) c.args.at)) (codes "output")) (wrong_output c.args.targets.now.conf.now c.args.acl.now) c.args.outputs.now _ c.loop-i.i c.index-outputs-i.result _ refl c.loop-i-test.true c.index-outputs-i.is c.loop-i.invariant).0
    (sym c.in_ok-found.ensures ∙ c.in_default.is)
