use Rattle.std.proofs.Common.{[], refl}
use Rattle.ctl_world.specs.World.{first}
use Rattle.law_lives.proofs.Since.{story_alike}
use Rattle.law_lives.proofs.spans.each_settling_counts_from_the_opening.Goals as goal

pub returns : goal.returns
returns c = λ conf story. story_alike [] [] (first conf) (λ n. (refl, refl)) story
