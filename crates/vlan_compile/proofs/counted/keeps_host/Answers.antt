use Rattle.std.proofs.Common.{◌==◌, ◌&&◌, ◌∙◌, nat_lt, sym, ap}
use Rattle.conf_types.specs.declared.state.HostRec.{HostRec}
use Rattle.conf_types.specs.State.{is_host_at}
use Rattle.vlan_compile.specs.Misses.{has_host}
use Rattle.vlan_compile.proofs.CountLemmas.{some_counted}
use Rattle.vlan_compile.proofs.counted.keeps_host.Goals as goal

pub returns-then-port : goal.returns-then-port
returns-then-port g c =
    let hosts = g.C.CountsHosts.hosts c.args.hosts.now in
    let id = c.args.dp.now.id in
    let no = c.args.port.now.no in
    let vid = c.args.vlan.now.vid in
    ap (nat_lt 0) c.in_vlan_at.ensures ∙ some_counted (λ (h : HostRec). is_host_at id no h && h.vid == vid) hosts ∙ sym (ap (λ b. b && has_host hosts id no vid) c.if-port.true)
