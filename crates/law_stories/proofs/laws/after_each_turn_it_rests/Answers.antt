use Rattle.law_stories.proofs.StoryRests.{story_rests}
use Rattle.law_stories.proofs.laws.after_each_turn_it_rests.Goals as goal

pub returns : goal.returns
returns c =
    story_rests c.a_settling_leaves_it_at_rest.ensures.rests c.a_settling_leaves_it_at_rest.ensures.in_order c.what_is_said_is_alike.ensures.change
    c.alike_worlds_rest_alike.ensures.rest
