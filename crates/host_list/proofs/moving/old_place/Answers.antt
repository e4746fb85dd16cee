use Rattle.std.proofs.Common.{filter, ap, ◌∙◌}
use Rattle.host_list.specs.declared.addresses.Address.{Address}
use Rattle.host_list.specs.Addresses.{address_of, has_address}
use Rattle.host_list.specs.Order.{first_entry, is_old}
use Rattle.host_list.proofs.Narrow.{first_told, old_tells}
use Rattle.host_list.proofs.moving.old_place.Goals as goal

pub returns-clause-value : goal.returns-clause-value
returns-clause-value c =
    let heard = c.args.heard.now in
    let order = c.args.order.now in
    let entries = c.entries.ensures.value ∙ ap (λ (a : Address). filter (has_address a) order) c.address_of.ensures in
    c.first_old.ensures ∙ ap (first_entry (is_old heard)) entries ∙ first_told (address_of heard) (is_old heard) (old_tells heard) order
