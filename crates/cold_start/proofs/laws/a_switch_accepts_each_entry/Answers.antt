use Rattle.cold_start.proofs.Start.{cold_is_accepted}
use Rattle.cold_start.proofs.laws.a_switch_accepts_each_entry.Goals as goal

pub returns : goal.returns
returns c = λ conf now d setting. cold_is_accepted conf now d setting
