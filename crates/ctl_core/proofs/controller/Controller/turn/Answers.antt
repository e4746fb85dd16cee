use Rattle.std.proofs.Common.{subst, sym}
use Rattle.ctl_core.specs.Known.{HasSettled}
use Rattle.ctl_core.proofs.Rests.{unsaid_settled}
use Rattle.ctl_core.proofs.controller.Controller.turn.Goals as goal

pub work-requires : goal.work-requires
work-requires g c =
    let k = c.self.inside.known in
    subst (λ said. HasSettled (record k { world = record k.world { said = said } })) (sym c.new.ensures) (unsaid_settled k (c.self.invariant c.if-self.false))
