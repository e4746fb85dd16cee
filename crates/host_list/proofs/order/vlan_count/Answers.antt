use Rattle.std.proofs.Common.{◌∙◌, ap, sum_by}
use Rattle.host_list.specs.declared.counts.Spot.{Spot}
use Rattle.host_list.specs.Addresses.{Entry}
use Rattle.host_list.specs.Order.{share}
use Rattle.host_list.proofs.Tallies.{alone_is}
use Rattle.host_list.proofs.order.vlan_count.Goals as goal

pub returns-in-None : goal.returns-in-None
returns-in-None c =
    c.count.ensures ∙ ap (λ (spot : Spot). sum_by (λ (e : Entry). share spot e.1) c.args.order.now) c.at_vlan.ensures
    ∙ alone_is c.args.conf.now c.args.group c.args.vid c.in-None.ensures.none c.args.order.now
