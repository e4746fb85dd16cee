use Rattle.std.proofs.Common.{ℕ, ◌+◌, List, length, min, ap, sym, ◌∙◌}
use Rattle.conf_types.specs.declared.acl.Rule.{Rule}
use Rattle.conf_types.specs.declared.datapath.Port.{Port}
use Rattle.conf_types.specs.declared.vlan.Vlan.{Vlan}
use Rattle.conf_limits.specs.Sizes.{capped, cost, vlan_cost}
use Rattle.conf_limits.proofs.Capped.{capped-both, attached-sum}
use Rattle.conf_limits.proofs.acl_sizes.acl_entries.Goals as goal

pub returns : goal.returns
returns c =
    let conf = c.args.acls.now in
    let d = c.args.dp.now in
    let cap = c.args.cap in
    let size = (λ (rules : List Rule). length rules + 1) in
    let on_port = λ (p : Port). cost size conf p.acls in
    let for_vlan = λ (v : Vlan). vlan_cost size conf d v in
    c.add.ensures
    ∙ ap (λ (n : ℕ). min cap (n + c.entries_for_vlans.result)) c.entries_on_ports.ensures
    ∙ ap (λ (n : ℕ). min cap (capped cap (λ (p : Port). min cap (on_port p)) d.ports + n)) c.entries_for_vlans.ensures
    ∙ capped-both cap on_port for_vlan d.ports conf.vlans
    ∙ ap (min cap) (sym (attached-sum size conf d))
