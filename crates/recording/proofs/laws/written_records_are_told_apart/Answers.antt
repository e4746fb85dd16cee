use Rattle.recording.proofs.Writing.{same_lists}
use Rattle.recording.proofs.laws.written_records_are_told_apart.Goals as goal

pub returns : goal.returns
returns c = same_lists
