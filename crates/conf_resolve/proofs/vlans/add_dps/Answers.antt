use Rattle.std.proofs.Common.{List, ◌∙◌, ap}
use Rattle.std.specs.List.{flat_map}
use Rattle.conf_shape.specs.declared.raw.RawPort.{RawPort}
use Rattle.conf_shape.specs.declared.raw.RawDp.{RawDp}
use Rattle.conf_resolve.specs.declared.ordered.PlacedVlan.{PlacedVlan}
use Rattle.conf_resolve.specs.InOrder.{of_port}
use Rattle.conf_resolve.specs.Added.{with_each}
use Rattle.conf_resolve.proofs.Adding.{next_added}
use Rattle.conf_resolve.proofs.vlans.add_dps.Goals as goal

pub loop-dp-preserved : goal.loop-dp-preserved
loop-dp-preserved c =
    let f : RawDp → List PlacedVlan = λ d. flat_map (of_port d) d.ports in
    next_added f (with_each c.args.vlans.now (flat_map f c.args.dps.now)) c.loop-dp.vlans c.add_ports.new.vlans c.args.dps.now c.loop-dp.dp-index c.dp-item.result c.loop-dp-test.true c.dp-item.is c.loop-dp.invariant
    (c.in_ok-add_ports.ensures ∙ ap (λ (ports : List RawPort). with_each c.loop-dp.vlans (flat_map (of_port c.dp-item.result) ports)) c.as_slice.ensures)
