use Rattle.law_recordings.proofs.Recorded.{same_written}
use Rattle.law_recordings.proofs.how_records_are_cut_changes_nothing.Goals as goal

pub returns : goal.returns
returns c = same_written
