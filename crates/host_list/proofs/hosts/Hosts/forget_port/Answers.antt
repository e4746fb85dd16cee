use Rattle.std.proofs.Common.{not, sym, ap, ◌∙◌, subst}
use Rattle.conf_types.specs.declared.state.HostRec.{HostRec}
use Rattle.conf_types.specs.State.{is_host_at}
use Rattle.host_list.specs.Hosts.{AreHosts, off_port}
use Rattle.host_list.specs.Order.{hosts_of}
use Rattle.host_list.proofs.Leaving.{hosts_filter}
use Rattle.host_list.proofs.Passed.{none_are}
use Rattle.host_list.proofs.Sound.{filter_sound}
use Rattle.host_list.proofs.hosts.Hosts.forget_port.Goals as goal

pub invariant_of-self : goal.invariant_of-self
invariant_of-self c =
    let o = c.self.inside in
    let test = is_host_at c.args.dp c.args.port in
    let hosts = ap hosts_of c.leave.ensures ∙ hosts_filter test o.order in
    (none_are c.none-self-inside.result c.none-self-inside.ensures c.leave.new.order, subst AreHosts (sym hosts) (filter_sound (λ (host : HostRec). not (test host)) (hosts_of o.order) c.self.invariant.1))

pub returns : goal.returns
returns c =
    ap hosts_of c.leave.ensures ∙ hosts_filter (is_host_at c.args.dp c.args.port) c.self.inside.order ∙ ap (off_port c.args.dp c.args.port) c.self.view_is
