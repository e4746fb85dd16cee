use Rattle.std.specs.List.{flat_map}
use Rattle.conf_resolve.specs.InOrder.{of_port}
use Rattle.conf_resolve.specs.Added.{with_each}
use Rattle.conf_resolve.proofs.Adding.{next_added}
use Rattle.conf_resolve.proofs.vlans.add_ports.Goals as goal

pub loop-port-preserved : goal.loop-port-preserved
loop-port-preserved c =
    let f = of_port c.args.dp.now in
    next_added f (with_each c.args.vlans.now (flat_map f c.args.ports.now)) c.loop-port.vlans c.add_port.new.vlans c.args.ports.now c.loop-port.port-index c.port-item.result c.loop-port-test.true c.port-item.is c.loop-port.invariant c.in_ok-add_port.ensures
