use Rattle.std.proofs.Common.{List, filter, ap, ◌∙◌}
use Rattle.std.specs.List.{list_any}
use Rattle.host_list.specs.declared.addresses.Address.{Address}
use Rattle.host_list.specs.Addresses.{Entry, address_of, has_address}
use Rattle.host_list.specs.Hosts.{is_in_place}
use Rattle.host_list.proofs.Narrow.{any_told, place_tells}
use Rattle.host_list.proofs.known.stands_there.Goals as goal

pub returns : goal.returns
returns c =
    let heard = c.args.heard.now in
    let order = c.args.order.now in
    let entries = c.entries.ensures.value ∙ ap (λ (a : Address). filter (has_address a) order) c.address_of.ensures in
    c.any_in_place.ensures ∙ ap (λ (es : List Entry). list_any (λ (e : Entry). (is_in_place heard) e.1) es) entries
    ∙ any_told (address_of heard) (is_in_place heard) (place_tells heard) order
