use Rattle.std.proofs.Common.{◌≡◌, Some, arith}
use Rattle.std.proofs.lemmas.Grind.{common_steps}
use Rattle.ctl_core.specs.Story.{unless_spent}
use Rattle.ctl_core.proofs.Soundness.{kept_sound}
use Rattle.ctl_core.proofs.controller.Controller.is_sound.Goals as goal

pub returns : goal.returns
returns c = λ w is.
    let seen : unless_spent c.self.inside.is_spent c.self.inside.known.world ≡ Some w = grind (arith, common_steps) in
    kept_sound c.self.inside.is_spent c.self.inside.known w c.self.invariant seen
