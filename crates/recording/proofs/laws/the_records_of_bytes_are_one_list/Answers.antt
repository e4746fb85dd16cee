use Rattle.recording.proofs.Grammar.{one_list}
use Rattle.recording.proofs.laws.the_records_of_bytes_are_one_list.Goals as goal

pub returns : goal.returns
returns c = one_list
