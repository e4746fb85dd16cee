use Rattle.law_recordings.proofs.Pieces.{known_so, said_so}
use Rattle.law_recordings.proofs.bytes.how_bytes_are_cut_changes_nothing.Goals as goal

pub returns : goal.returns
returns c = record { known = known_so; said = said_so }
