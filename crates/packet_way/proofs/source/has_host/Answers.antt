use Rattle.std.proofs.Common.{◌==◌, ◌&&◌, ◌∙◌, nat_lt, ap}
use Rattle.conf_types.specs.declared.state.HostRec.{HostRec}
use Rattle.conf_types.specs.State.{is_host_at}
use Rattle.host_list.proofs.Tallies.{some_pass}
use Rattle.packet_way.proofs.source.has_host.Goals as goal

pub returns : goal.returns
returns c =
    let test = λ (h : HostRec). is_host_at c.args.dp.now.id c.args.port.now.no h && h.vid == c.args.vid in
    ap (nat_lt 0) c.in_vlan_at.ensures ∙ some_pass test c.args.hosts.now
