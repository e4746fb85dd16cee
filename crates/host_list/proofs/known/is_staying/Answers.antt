use Rattle.std.proofs.Common.{◌&&◌, List, filter, ap, ◌∙◌}
use Rattle.std.specs.List.{list_any}
use Rattle.conf_types.specs.declared.state.HostRec.{HostRec}
use Rattle.conf_types.specs.State.{is_permanent}
use Rattle.host_list.specs.declared.addresses.Address.{Address}
use Rattle.host_list.specs.Addresses.{Entry, address_of, has_address}
use Rattle.host_list.specs.Hosts.{is_heard}
use Rattle.host_list.proofs.Narrow.{any_told, staying_tells}
use Rattle.host_list.proofs.known.is_staying.Goals as goal

pub returns : goal.returns
returns c =
    let heard = c.args.heard.now in
    let order = c.args.order.now in
    let entries = c.entries.ensures.value ∙ ap (λ (a : Address). filter (has_address a) order) c.address_of.ensures in
    c.any_staying.ensures ∙ ap (λ (es : List Entry). list_any (λ (e : Entry). (λ (h : HostRec). is_heard c.args.conf.now heard h && is_permanent c.args.conf.now h) e.1) es) entries
    ∙ any_told (address_of heard) (λ (h : HostRec). is_heard c.args.conf.now heard h && is_permanent c.args.conf.now h) (staying_tells c.args.conf.now heard) order
