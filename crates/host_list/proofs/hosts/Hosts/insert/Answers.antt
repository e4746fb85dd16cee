use Rattle.std.proofs.Common.{◌<◌, ◌^◌, List, length, sym, ap, ◌∙◌, subst}
use Rattle.conf_types.specs.declared.state.HostRec.{HostRec}
use Rattle.host_list.specs.Hosts.{AreHosts}
use Rattle.host_list.specs.Order.{hosts_of}
use Rattle.host_list.proofs.Passed.{none_are}
use Rattle.host_list.proofs.Sound.{hosts_push, push_sound}
use Rattle.host_list.proofs.hosts.Hosts.insert.Goals as goal

pub invariant_of-self-2 : goal.invariant_of-self-2
invariant_of-self-2 c =
    let o = c.self.inside in
    let host = c.args.host.now in
    let less = subst (λ (hosts : List HostRec). length hosts < 2 ^ 32) (sym c.self.view_is) c.requires in
    let hosts = ap hosts_of c.in_ok-push.ensures.ok ∙ hosts_push _ host o.order in
    (none_are c.none-self-inside.result c.none-self-inside.ensures c.push.new.self, subst AreHosts (sym hosts) (push_sound (hosts_of o.order) host less c.first_byte-first.ensures c.self.invariant.1))
