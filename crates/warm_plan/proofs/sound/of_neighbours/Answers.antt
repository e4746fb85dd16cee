use Rattle.std.specs.Prelude.{IfSome}
use Rattle.net_base.specs.Address.{IsSixBytes}
use Rattle.conf_types.specs.declared.state.NeighRec.{NeighRec}
use Rattle.warm_plan.proofs.Commands.{all_more}
use Rattle.warm_plan.proofs.sound.of_neighbours.Goals as goal

pub loop-neighbour-preserved : goal.loop-neighbour-preserved
loop-neighbour-preserved c =
    all_more (λ (n : NeighRec). IfSome n.mac (λ mac. IsSixBytes mac.0)) c.args.neighbours.now c.loop-neighbour.neighbour-index c.neighbour-item.result c.loop-neighbour-test.true c.neighbour-item.is c.loop-neighbour.invariant c.of_neighbour.ensures
