use Rattle.law_recordings.proofs.Recorded.{same_of_bytes, same_streams}
use Rattle.law_recordings.proofs.how_recordings_are_cut_changes_nothing.Goals as goal

pub returns : goal.returns
returns c = record { stories = same_of_bytes; streams = same_streams }
