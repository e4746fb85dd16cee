use Rattle.std.proofs.Common.{◌==◌, ◌&&◌, sum_by, ap, ◌∙◌, Some}
use Rattle.conf_types.specs.declared.state.HostRec.{HostRec}
use Rattle.conf_types.specs.State.{is_host_at}
use Rattle.host_list.specs.declared.counts.Spot.{Spot}
use Rattle.host_list.specs.Addresses.{Entry}
use Rattle.host_list.specs.Order.{share}
use Rattle.host_list.proofs.Tallies.{spot_share, sum_is_count}
use Rattle.host_list.proofs.order.vlan_at_count.Goals as goal

pub returns : goal.returns
returns c =
    let dp = c.args.dp in
    let n = c.args.port in
    let v = c.args.vid in
    c.count.ensures ∙ ap (λ (s : Spot). sum_by (λ (e : Entry). share s e.1) c.args.order.now) c.at_both.ensures
    ∙ sum_is_count (share (record { dp = dp; port = Some n; vid = Some v })) (λ (h : HostRec). is_host_at dp n h && h.vid == v) (spot_share dp n v) c.args.order.now
