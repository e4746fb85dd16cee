use Rattle.recording.proofs.Grammar.{records_or_refused}
use Rattle.recording.proofs.laws.bytes_have_records_or_a_first_refused_one.Goals as goal

pub returns : goal.returns
returns c = records_or_refused
