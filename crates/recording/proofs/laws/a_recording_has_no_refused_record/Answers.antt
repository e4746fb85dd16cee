use Rattle.recording.proofs.Grammar.{not_both}
use Rattle.recording.proofs.laws.a_recording_has_no_refused_record.Goals as goal

pub returns : goal.returns
returns c = not_both
