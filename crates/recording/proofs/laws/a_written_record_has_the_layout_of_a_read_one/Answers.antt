use Rattle.recording.proofs.Writing.{written_layout}
use Rattle.recording.proofs.laws.a_written_record_has_the_layout_of_a_read_one.Goals as goal

pub returns : goal.returns
returns c = written_layout
