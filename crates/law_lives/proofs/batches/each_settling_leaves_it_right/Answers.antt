use Rattle.law_lives.proofs.BatchesBehind.{story_behind}
use Rattle.law_lives.proofs.batches.each_settling_leaves_it_right.Goals as goal

pub returns : goal.returns
returns c = story_behind c.what_the_laws_rest_on.ensures
