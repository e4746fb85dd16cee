use Rattle.conf_resolve.specs.declared.ordered.PlacedVlan.{PlacedVlan}
use Rattle.conf_resolve.proofs.Naming.{next_named}
use Rattle.conf_resolve.proofs.by_name.first_vids.Goals as goal

pub loop-placed-preserved : goal.loop-placed-preserved
loop-placed-preserved c =
    next_named (λ (v : PlacedVlan). v.vlan.names.name) (λ (v : PlacedVlan). v.vlan.vid) c.args.vlans.now c.loop-placed.placed-index c.placed-item.result c.loop-placed.vids c.add_first.new.values c.loop-placed-test.true c.placed-item.is c.loop-placed.invariant c.in_ok-add_first.ensures
