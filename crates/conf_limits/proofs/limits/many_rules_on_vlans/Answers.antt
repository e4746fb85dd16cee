use Rattle.std.proofs.Common.{ap, sym, ◌∙◌}
use Rattle.conf_types.specs.Configuration.{Configuration}
use Rattle.conf_rules.specs.Limits.{many_rules_on_vlan}
use Rattle.conf_rules.proofs.First.{walked_beside}
use Rattle.conf_limits.proofs.limits.many_rules_on_vlans.Goals as goal

pub returns-in-Some-2 : goal.returns-in-Some-2
returns-in-Some-2 c =
    (walked_beside (many_rules_on_vlan c.args.acls.now) c.args.ordered.now.vlans _ c.args.acls.now.vlans _ c.loop-i.i c.placed-item.result c.in-Some.vlan.now _ c.as_slice-placed-items.ensures c.loop-i-test.true c.placed-item.is (c.as_slice-vlans.ensures ∙ c.vlans.ensures ∙ ap (λ (k : Configuration). k.vlans) c.conf.ensures) c.in-Some.ensures.lookup.3.0 c.in-Some.ensures.lookup.1 c.loop-i.invariant).1
    c.in-Some-2.found (sym c.in_ok-found.ensures ∙ c.in-Some-2.is)

pub loop-i-preserved : goal.loop-i-preserved
loop-i-preserved c =
    (walked_beside (many_rules_on_vlan c.args.acls.now) c.args.ordered.now.vlans _ c.args.acls.now.vlans _ c.loop-i.i c.placed-item.result c.in-Some.vlan.now _ c.as_slice-placed-items.ensures c.loop-i-test.true c.placed-item.is (c.as_slice-vlans.ensures ∙ c.vlans.ensures ∙ ap (λ (k : Configuration). k.vlans) c.conf.ensures) c.in-Some.ensures.lookup.3.0 c.in-Some.ensures.lookup.1 c.loop-i.invariant).0
    (sym c.in_ok-found.ensures ∙ c.in_default-2.is)
