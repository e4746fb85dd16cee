use Rattle.std.proofs.Common.{◌≡◌, ◌+◌, ◌<◌, ◌≤◌, ◌^◌, List, length, sum_by, ap, ◌∙◌, arith}
use Rattle.std.proofs.lemmas.List.{take_all}
use Rattle.std.proofs.lemmas.List.Sums.{count_by-le-length, sum_by_more, sum_by_more_le}
use Rattle.conf_types.specs.declared.datapath.Dp.{Dp}
use Rattle.conf_types.specs.State.{is_host_in}
use Rattle.host_list.specs.Order.{hosts_of, vlan_part}
use Rattle.host_list.proofs.Tallies.{hosts_many, parts_are}
use Rattle.host_list.proofs.order.group_count.Goals as goal

pub overflow_add-count : goal.overflow_add-count
overflow_add-count c =
    let conf = c.args.conf.now in
    let order = c.args.order.now in
    let at = c.loop-at.at in
    let many : length c.as_slice-at-end.result.now ≡ length conf.dps = ap (λ (ds : List Dp). length ds) (c.as_slice-at-end.ensures ∙ c.dps.ensures.lists) in
    let within : at < length conf.dps = omega (arith, many, c.loop-at-test.true) in
    let all = parts_are conf c.args.group c.args.vid c.dps.ensures.valid.datapaths.ids c.requires.known order in
    let few = count_by-le-length (is_host_in conf c.args.group c.args.vid) (hosts_of order) in
    let more = sum_by_more_le (vlan_part conf order c.args.group c.args.vid) conf.dps at c.requires.known.dp within in
    let small : c.loop-at.count + c.vlan_part-count.result ≤ 2 ^ 32 = omega (arith, all, few, more, hosts_many order, c.requires.few, c.loop-at.invariant, c.vlan_part-count.ensures c.requires.known.dp) in
    search (arith, small)

pub loop-at-preserved : goal.loop-at-preserved
loop-at-preserved c =
    let conf = c.args.conf.now in
    let order = c.args.order.now in
    let at = c.loop-at.at in
    let many : length c.as_slice-at-end.result.now ≡ length conf.dps = ap (λ (ds : List Dp). length ds) (c.as_slice-at-end.ensures ∙ c.dps.ensures.lists) in
    let within : at < length conf.dps = omega (arith, many, c.loop-at-test.true) in
    let more = sum_by_more (vlan_part conf order c.args.group c.args.vid) conf.dps at c.requires.known.dp within in
    omega (arith, more, c.loop-at.invariant, c.vlan_part-count.ensures c.requires.known.dp)

pub returns : goal.returns
returns c =
    let conf = c.args.conf.now in
    let order = c.args.order.now in
    let many : length c.as_slice-at-end.result.now ≡ length conf.dps = ap (λ (ds : List Dp). length ds) (c.as_slice-at-end.ensures ∙ c.dps.ensures.lists) in
    let past : length conf.dps ≤ c.loop-at.at = omega (arith, many, c.loop-at-test.false) in
    c.loop-at.invariant ∙ ap (sum_by (vlan_part conf order c.args.group c.args.vid)) (take_all c.loop-at.at conf.dps past)
    ∙ parts_are conf c.args.group c.args.vid c.dps.ensures.valid.datapaths.ids c.requires.known order
