use Rattle.std.proofs.Common.{List, filter, find, ap, ◌∙◌}
use Rattle.net_base.specs.declared.numbers.DpId.{DpId}
use Rattle.conf_types.specs.declared.state.HostRec.{HostRec}
use Rattle.conf_types.specs.Groups.{group_of}
use Rattle.host_list.specs.declared.addresses.Address.{Address}
use Rattle.host_list.specs.Addresses.{Entry, has_address}
use Rattle.host_list.specs.Hosts.{has_key, host_of}
use Rattle.host_list.specs.Order.{hosts_of}
use Rattle.host_list.proofs.Narrow.{found_told, key_tells}
use Rattle.host_list.proofs.hosts.Hosts.get.Goals as goal

pub returns : goal.returns
returns c =
    let conf = c.args.conf.now in
    let vid = c.args.vid in
    let mac = c.args.mac in
    let order = c.self.inside.order in
    let address : Address = record { vid = vid; mac = mac } in
    let group = group_of conf c.args.dp in
    let entries = c.entries.ensures.value ∙ ap (λ (a : Address). filter (has_address a) order) c.key_address-address.ensures in
    c.find_host.ensures ∙ ap (λ (g : DpId). find (has_key conf g vid mac.0) (hosts_of c.entries.result.now)) c.group_number-group.ensures
    ∙ ap (λ (es : List Entry). find (has_key conf group vid mac.0) (hosts_of es)) entries
    ∙ found_told address (has_key conf group vid mac.0) (key_tells conf group address) order
    ∙ ap (λ (hosts : List HostRec). host_of conf hosts c.args.dp vid mac.0) c.self.view_is
