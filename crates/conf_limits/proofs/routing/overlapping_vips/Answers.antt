use Rattle.std.proofs.Common.{sym, ◌∙◌}
use Rattle.conf_rules.specs.Routing.{overlapping_of_vlan}
use Rattle.conf_rules.proofs.Earlier.{walked_beside_behind}
use Rattle.conf_limits.proofs.MetVips.{vips_more}
use Rattle.conf_limits.proofs.routing.overlapping_vips.Goals as goal

pub returns-in-Some-2 : goal.returns-in-Some-2
returns-in-Some-2 c =
    let vlans = c.as_slice-vlans.ensures ∙ c.vlans.ensures in
    let step = walked_beside_behind (overlapping_of_vlan c.args.conf.now) c.args.ordered.now.vlans _ c.args.conf.now.vlans _ c.loop-i.i c.placed-item.result c.in-Some.vlan.now _
    c.as_slice-placed-items.ensures c.loop-i-test.true c.placed-item.is vlans c.in-Some.ensures.lookup.3.0 c.in-Some.ensures.lookup.1 c.loop-i.invariant.0 in
    step.1 c.in-Some-2.found (sym (rw c.in_ok-joined.ensures at c.in_ok-found.ensures) ∙ c.in-Some-2.is)

pub loop-i-preserved : goal.loop-i-preserved
loop-i-preserved c =
    let vlans = c.as_slice-vlans.ensures ∙ c.vlans.ensures in
    let step = walked_beside_behind (overlapping_of_vlan c.args.conf.now) c.args.ordered.now.vlans _ c.args.conf.now.vlans _ c.loop-i.i c.placed-item.result c.in-Some.vlan.now _
    c.as_slice-placed-items.ensures c.loop-i-test.true c.placed-item.is vlans c.in-Some.ensures.lookup.3.0 c.in-Some.ensures.lookup.1 c.loop-i.invariant.0 in (
      step.0 (sym (rw c.in_ok-joined.ensures at c.in_ok-found.ensures) ∙ c.in_default-2.is),
      vips_more c.loop-i.met c.meet_vips.new.met c.args.conf.now.vlans _ c.loop-i.i c.in-Some.vlan.now c.as_slice.result.now vlans c.in-Some.ensures.lookup.3.0 c.in-Some.ensures.lookup.1 c.as_slice.ensures c.loop-i.invariant.1
          c.in_ok-meet_vips.ensures,
    )
