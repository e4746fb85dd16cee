use Rattle.ctl_world.specs.World.{first}
use Rattle.ctl_drive.specs.Controller.{controller}
use Rattle.law_recordings.proofs.Told.{one_story, some_story}
use Rattle.law_recordings.proofs.records_tell_one_story.Goals as goal

pub returns : goal.returns
returns c = record { some = λ conf. some_story controller (first conf); one = λ conf. one_story controller (first conf) }
