use Rattle.recording.proofs.Whole.{done_told}
use Rattle.recording.proofs.laws.a_done_story_is_the_turns_of_its_records.Goals as goal

pub returns : goal.returns
returns g c = done_told g.S.Source.left g.S.Source.may
