use Rattle.ctl_core.proofs.Rests.{first_settled}
use Rattle.ctl_core.proofs.controller.Controller.new.Goals as goal

pub invariant_of-result : goal.invariant_of-result
invariant_of-result c = λ _. first_settled c.in_ok-world.world c.args.conf _ c.in_ok-world.ensures c.new-2.ensures (c.what_is_known_first_is_sound.ensures c.args.conf c.a_configuration_is_valid.ensures)
