use Rattle.std.proofs.Common.{sum_by, ap, ◌∙◌, Some, None}
use Rattle.conf_types.specs.State.{is_host_at}
use Rattle.host_list.specs.declared.counts.Spot.{Spot}
use Rattle.host_list.specs.Addresses.{Entry}
use Rattle.host_list.specs.Order.{share}
use Rattle.host_list.proofs.Tallies.{port_share, sum_is_count}
use Rattle.host_list.proofs.order.port_count.Goals as goal

pub returns : goal.returns
returns c =
    let dp = c.args.dp in
    let n = c.args.port in
    c.count.ensures ∙ ap (λ (s : Spot). sum_by (λ (e : Entry). share s e.1) c.args.order.now) c.at_port.ensures
    ∙ sum_is_count (share (record { dp = dp; port = Some n; vid = None })) (is_host_at dp n) (port_share dp n) c.args.order.now
