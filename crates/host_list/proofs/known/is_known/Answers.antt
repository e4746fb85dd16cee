use Rattle.std.proofs.Common.{List, filter, ap, ◌∙◌}
use Rattle.std.specs.List.{list_any}
use Rattle.host_list.specs.declared.addresses.Address.{Address}
use Rattle.host_list.specs.Addresses.{Entry, address_of, has_address}
use Rattle.host_list.specs.Hosts.{is_heard}
use Rattle.host_list.proofs.Narrow.{any_told, heard_tells}
use Rattle.host_list.proofs.known.is_known.Goals as goal

pub returns : goal.returns
returns c =
    let heard = c.args.heard.now in
    let order = c.args.order.now in
    let entries = c.entries.ensures.value ∙ ap (λ (a : Address). filter (has_address a) order) c.address_of.ensures in
    c.any_heard.ensures ∙ ap (λ (es : List Entry). list_any (λ (e : Entry). (is_heard c.args.conf.now heard) e.1) es) entries
    ∙ any_told (address_of heard) (is_heard c.args.conf.now heard) (heard_tells c.args.conf.now heard) order
