use Rattle.std.proofs.Common.{rules, ◌∙◌}
use Rattle.conf_rules.specs.Limits.{gateways_of}
use Rattle.conf_limits.proofs.Capped.{added_more}
use Rattle.conf_limits.proofs.sizes.all_gateways.Goals as goal

pub loop-vlan-preserved : goal.loop-vlan-preserved
loop-vlan-preserved c =
    added_more c.args.cap gateways_of c.args.conf.now.vlans _ c.loop-vlan.vlan-index c.vlan-item.result _ _ _ (c.as_slice-vlan-items.ensures ∙ c.vlans.ensures) c.loop-vlan-test.true c.vlan-item.is c.loop-vlan.invariant c.in_ok-gateways.ensures (search rules)
