use Rattle.plan_units.proofs.Composed.{whole}
use Rattle.plan_units.proofs.laws.tables_that_do_as_said_send_as_described.Goals as goal

pub returns : goal.returns
returns c = λ conf now d setting laws port p fits shaped. whole conf now d laws setting port p fits shaped
