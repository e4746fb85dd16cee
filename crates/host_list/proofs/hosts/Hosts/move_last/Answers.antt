use Rattle.std.proofs.Common.{◌<◌, ◌^◌, List, length, sym, subst}
use Rattle.conf_types.specs.declared.state.HostRec.{HostRec}
use Rattle.host_list.specs.Hosts.{AreHosts}
use Rattle.host_list.specs.Order.{hosts_of}
use Rattle.host_list.proofs.Passed.{none_are}
use Rattle.host_list.proofs.Sound.{moved_sound}
use Rattle.host_list.proofs.hosts.Hosts.move_last.Goals as goal

pub invariant_of-self-2 : goal.invariant_of-self-2
invariant_of-self-2 c =
    let o = c.self.inside in
    let less = subst (λ (hosts : List HostRec). length hosts < 2 ^ 32) (sym c.self.view_is) c.requires in
    (none_are c.none-self-inside.result c.none-self-inside.ensures c.move_last.new.order, subst AreHosts (sym c.in_ok-move_last.ensures.ok) (moved_sound c.args.conf.now c.args.heard.now (hosts_of o.order) less c.first_byte-first.ensures c.self.invariant.1))
