use Rattle.std.proofs.Common.{Option, ap, ◌∙◌, false}
use Rattle.std.specs.Option.{option_map_or}
use Rattle.net_base.specs.declared.numbers.DpId.{DpId}
use Rattle.conf_types.specs.declared.vlan.Vlan.{Vlan}
use Rattle.conf_types.specs.Groups.{group_of}
use Rattle.conf_types.specs.State.{is_vlan_full}
use Rattle.test_hosts.proofs.plain.is_full_in.Goals as goal

pub returns-in-Some : goal.returns-in-Some
returns-in-Some c =
    let conf = c.args.conf.now in
    let hosts = c.args.hosts.now in
    c.is_vlan_full.ensures ∙ ap (λ (group : DpId). is_vlan_full conf hosts group c.in-Some.vlan.now) c.group_number-group.ensures
    ∙ ap (λ (o : Option Vlan). option_map_or (λ v. is_vlan_full conf hosts (group_of conf c.args.host.now.dp) v) o false) (c.in-Some.ensures)
