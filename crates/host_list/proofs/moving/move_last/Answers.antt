use Rattle.std.proofs.Common.{not, filter, ap, ◌∙◌}
use Rattle.host_list.specs.Addresses.{Entry}
use Rattle.host_list.specs.Order.{hosts_of, is_other}
use Rattle.host_list.proofs.Leaving.{moved_is}
use Rattle.host_list.proofs.moving.move_last.Goals as goal

pub returns-clause-ok : goal.returns-clause-ok
returns-clause-ok c =
    let conf = c.args.conf.now in
    let heard = c.args.heard.now in
    let place = c.in_ok-place.place in
    ap hosts_of (c.leave_others.ensures ∙ ap (filter (λ (e : Entry). not (is_other conf heard place e))) c.in_ok-place.ensures.ok)
    ∙ moved_is conf heard place c.args.order.now c.in_ok-place.ensures.last
