use Rattle.recording_hub.proofs.Telling.{all_held}
use Rattle.recording_hub.proofs.laws.what_is_held_is_told_as_it_was.Goals as goal

pub returns : goal.returns
returns c = all_held
