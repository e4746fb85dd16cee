use Rattle.fg_outside.proofs.StoryLemmas.{story-append}
use Rattle.fg_outside.proofs.laws.stories_join.Goals as goal

pub returns : goal.returns
returns c = story-append
