use Rattle.std.proofs.Common.{◌==◌, ◌&&◌, nat_lt, ap, ◌∙◌}
use Rattle.conf_types.specs.declared.state.HostRec.{HostRec}
use Rattle.conf_types.specs.State.{is_host_at}
use Rattle.host_list.proofs.Tallies.{some_pass}
use Rattle.host_learn.proofs.learn.is_occupied.Goals as goal

pub returns : goal.returns
returns c =
    let heard = c.args.heard.now in
    let test = λ (h : HostRec). is_host_at heard.dp heard.port h && h.vid == heard.vid in
    ap (nat_lt 0) c.in_vlan_at.ensures ∙ some_pass test c.args.hosts.now
