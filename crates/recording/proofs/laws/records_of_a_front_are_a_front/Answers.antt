use Rattle.recording.proofs.Grammar.{front_records}
use Rattle.recording.proofs.laws.records_of_a_front_are_a_front.Goals as goal

pub returns : goal.returns
returns c = front_records
