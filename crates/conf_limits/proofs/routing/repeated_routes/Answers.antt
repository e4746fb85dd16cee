use Rattle.std.proofs.Common.{sym, ◌∙◌}
use Rattle.conf_rules.specs.Routing.{repeated_of_vlan}
use Rattle.conf_rules.proofs.Earlier.{walked_beside_behind}
use Rattle.conf_limits.proofs.MetRoutes.{vlan_more}
use Rattle.conf_limits.proofs.routing.repeated_routes.Goals as goal

pub returns-in-Some-2 : goal.returns-in-Some-2
returns-in-Some-2 c =
    let vlans = c.as_slice-vlans.ensures ∙ c.vlans.ensures in
    let step = walked_beside_behind (repeated_of_vlan c.args.conf.now) c.args.ordered.now.vlans _ c.args.conf.now.vlans _ c.loop-i.i c.placed-item.result c.in-Some.vlan.now _
    c.as_slice-placed-items.ensures c.loop-i-test.true c.placed-item.is vlans c.in-Some.ensures.lookup.3.0 c.in-Some.ensures.lookup.1 c.loop-i.invariant.0 in
    step.1 c.in-Some-2.found (sym (rw c.in_ok-joined.ensures at c.in_ok-found.ensures).found ∙ c.in-Some-2.is)

pub loop-i-preserved : goal.loop-i-preserved
loop-i-preserved c =
    let vlans = c.as_slice-vlans.ensures ∙ c.vlans.ensures in
    let step = walked_beside_behind (repeated_of_vlan c.args.conf.now) c.args.ordered.now.vlans _ c.args.conf.now.vlans _ c.loop-i.i c.placed-item.result c.in-Some.vlan.now _
    c.as_slice-placed-items.ensures c.loop-i-test.true c.placed-item.is vlans c.in-Some.ensures.lookup.3.0 c.in-Some.ensures.lookup.1 c.loop-i.invariant.0 in (
      step.0 (sym (rw c.in_ok-joined.ensures at c.in_ok-found.ensures).found ∙ c.in_default-2.is),
      vlan_more c.repeated_of_vlan.new.met c.args.conf.now.vlans _ c.loop-i.i c.in-Some.vlan.now vlans c.in-Some.ensures.lookup.3.0 c.in-Some.ensures.lookup.1
          ((rw c.in_ok-joined.ensures at c.in_ok-found.ensures).met c.in_default-2.is),
    )
