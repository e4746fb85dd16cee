use Rattle.std.proofs.Common.{Some, ap, ◌∙◌}
use Rattle.std.proofs.lemmas.Result.{IfOk-weaker}
use Rattle.ctl_world.specs.World.{World, now}
use Rattle.ctl_core.specs.Behind.{behind}
use Rattle.ctl_core.proofs.turns.age_named.Goals as goal

pub returns-in-Some-clause-touched : goal.returns-in-Some-clause-touched
returns-in-Some-clause-touched c =
    rw c.in-Some.is (IfOk-weaker c.behind.result _ _ (λ touched is. is ∙ ap (λ (u : World). Some (behind u.conf c.in-Some.kept (now u))) c.age.ensures) c.behind.ensures)
