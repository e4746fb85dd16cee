use Rattle.recording.proofs.Whole.{stopped_told}
use Rattle.recording.proofs.laws.a_stopped_story_is_the_turns_of_a_front.Goals as goal

pub returns : goal.returns
returns g c = stopped_told g.S.Source.left g.S.Source.may
