use Rattle.law_lives.proofs.Pieces.{turns_of_bytes}
use Rattle.law_lives.proofs.bytes.a_recording_tells_of_bytes.Goals as goal

pub returns : goal.returns
returns c = turns_of_bytes
