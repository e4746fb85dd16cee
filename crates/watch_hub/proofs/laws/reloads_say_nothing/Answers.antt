use Rattle.watch_hub.proofs.Telling.{spoken_same}
use Rattle.watch_hub.proofs.laws.reloads_say_nothing.Goals as goal

pub returns : goal.returns
returns c = spoken_same
