use Rattle.ctl_settle.proofs.SamePlans.{held_alike}
use Rattle.ctl_settle.proofs.laws.alike_worlds_have_the_same_plans.Goals as goal

pub returns : goal.returns
returns c = held_alike
