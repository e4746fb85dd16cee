use Rattle.ctl_world.specs.World.{first}
use Rattle.ctl_drive.specs.Controller.{controller}
use Rattle.law_recordings.proofs.Begun.{begun_story, whole_records_story}
use Rattle.law_recordings.proofs.what_is_told_so_far_is_a_front_of_the_one_story.Goals as goal

pub returns : goal.returns
returns c = record { so_far = λ conf. begun_story controller (first conf); records = λ conf. whole_records_story controller (first conf) }
