use Rattle.std.proofs.Common.{sym, subst}
use Rattle.conf_types.specs.State.{is_to_forget}
use Rattle.host_list.specs.Hosts.{AreHosts}
use Rattle.host_list.specs.Order.{hosts_of}
use Rattle.host_list.proofs.Sound.{first_sound}
use Rattle.host_list.proofs.hosts.Hosts.age.Goals as goal

pub invariant_of-self : goal.invariant_of-self
invariant_of-self c =
    let o = c.self.inside in
    (c.take_due.ensures.passed, subst AreHosts (sym c.take_due.ensures.left) (first_sound (is_to_forget c.args.conf.now c.args.now.0) (hosts_of o.order) c.self.invariant.1))
