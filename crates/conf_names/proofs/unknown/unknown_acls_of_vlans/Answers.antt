use Rattle.std.proofs.Common.{sym, ◌∙◌, refl}
use Rattle.conf_rules.specs.Names.{unknown_acls_of_vlan}
use Rattle.conf_rules.proofs.First.{walked}
use Rattle.conf_names.proofs.unknown.unknown_acls_of_vlans.Goals as goal

pub returns-in-Some : goal.returns-in-Some
returns-in-Some c =
    (walked (unknown_acls_of_vlan c.args.acls.now) c.args.vlans.now _ c.loop-placed.placed-index c.placed-item.result _ refl c.loop-placed-test.true c.placed-item.is c.loop-placed.invariant).1
    c.in-Some.found (sym c.in_ok-found.ensures ∙ c.in-Some.is)

pub loop-placed-preserved : goal.loop-placed-preserved
loop-placed-preserved c =
    (walked (unknown_acls_of_vlan c.args.acls.now) c.args.vlans.now _ c.loop-placed.placed-index c.placed-item.result _ refl c.loop-placed-test.true c.placed-item.is c.loop-placed.invariant).0
    (sym c.in_ok-found.ensures ∙ c.in_default.is)
