use Rattle.recording.proofs.Whole.{failed_told}
use Rattle.recording.proofs.laws.a_failed_story_is_the_turns_of_the_records_before.Goals as goal

pub returns : goal.returns
returns g c = failed_told g.S.Source.left g.S.Source.may
