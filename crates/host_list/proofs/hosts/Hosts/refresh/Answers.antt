use Rattle.std.proofs.Common.{sym, subst}
use Rattle.host_list.specs.Hosts.{AreHosts}
use Rattle.host_list.specs.Order.{hosts_of}
use Rattle.host_list.proofs.Passed.{none_are}
use Rattle.host_list.proofs.Sound.{refreshed_sound}
use Rattle.host_list.proofs.hosts.Hosts.refresh.Goals as goal

pub invariant_of-self : goal.invariant_of-self
invariant_of-self c =
    let o = c.self.inside in
    (none_are c.none-self-inside.result c.none-self-inside.ensures c.refresh.new.order, subst AreHosts (sym c.refresh.ensures) (refreshed_sound c.args.heard.now (hosts_of o.order) c.self.invariant.1))
