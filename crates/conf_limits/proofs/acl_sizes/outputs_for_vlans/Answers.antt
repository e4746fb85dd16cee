use Rattle.std.proofs.Common.{rules, List, min, ap, ◌∙◌}
use Rattle.std.specs.Prelude.{sum_by}
use Rattle.conf_types.specs.declared.acl.Rule.{Rule}
use Rattle.conf_types.specs.declared.datapath.Dp.{Dp}
use Rattle.conf_types.specs.Configuration.{Configuration}
use Rattle.conf_types.specs.Valid.{ports_named}
use Rattle.conf_limits.specs.Sizes.{vlan_cost}
use Rattle.conf_limits.proofs.Capped.{added_more}
use Rattle.conf_limits.proofs.acl_sizes.outputs_for_vlans.Goals as goal

pub loop-vlan-preserved : goal.loop-vlan-preserved
loop-vlan-preserved c =
    let d = c.args.ports.now.dp.now in
    let conf = c.args.acls.now in
    let of = (λ (e : Dp). vlan_cost (λ (rules : List Rule). sum_by (ports_named d) rules) conf e) in
    added_more c.args.cap (of d) conf.vlans _ c.loop-vlan.vlan-index c.vlan-item.result _ _ _
    (c.as_slice-vlan-items.ensures ∙ c.vlans.ensures ∙ ap (λ (k : Configuration). k.vlans) c.conf.ensures) c.loop-vlan-test.true c.vlan-item.is c.loop-vlan.invariant
    (c.in_ok-named.ensures ∙ ap (λ (e : Dp). min c.args.cap (of e c.vlan-item.result)) (c.of-edges.ensures ∙ c.dp.ensures)) (search rules)
