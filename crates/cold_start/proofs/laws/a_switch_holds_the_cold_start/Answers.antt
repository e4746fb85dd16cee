use Rattle.cold_start.proofs.Start.{cold_opened}
use Rattle.cold_start.proofs.laws.a_switch_holds_the_cold_start.Goals as goal

pub returns : goal.returns
returns c = λ conf now d held settled turn. cold_opened conf now d held settled turn
