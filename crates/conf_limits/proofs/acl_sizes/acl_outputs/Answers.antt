use Rattle.std.proofs.Common.{◌+◌, List, min, ap, sym, ◌∙◌}
use Rattle.std.specs.Prelude.{sum_by}
use Rattle.conf_types.specs.declared.acl.Rule.{Rule}
use Rattle.conf_types.specs.declared.datapath.Dp.{Dp}
use Rattle.conf_types.specs.declared.datapath.Port.{Port}
use Rattle.conf_types.specs.Valid.{ports_named}
use Rattle.conf_limits.specs.Sizes.{cost, vlan_cost}
use Rattle.conf_limits.proofs.Capped.{both-capped, attached-sum}
use Rattle.conf_limits.proofs.acl_sizes.acl_outputs.Goals as goal

pub returns : goal.returns
returns c =
    let conf = c.args.acls.now in
    let size = (λ (d : Dp) (rules : List Rule). sum_by (ports_named d) rules) in
    let on_ports = (λ (d : Dp). sum_by (λ (p : Port). cost (size d) conf p.acls) d.ports) in
    let for_vlans = (λ (d : Dp). sum_by (vlan_cost (size d) conf d) conf.vlans) in
    let made = c.in_ok-ports.ports.dp.now in
    both-capped c.args.cap (on_ports made) (for_vlans made) _ _ _ c.in_ok-on_ports.ensures c.in_ok-for_vlans.ensures c.add.ensures
    ∙ ap (λ (d : Dp). min c.args.cap (on_ports d + for_vlans d)) c.in_ok-ports.ensures
    ∙ ap (min c.args.cap) (sym (attached-sum (size c.args.dp.now) conf c.args.dp.now))
