use Rattle.fg_links.proofs.StoryLemmas.{story-led}
use Rattle.fg_links.proofs.laws.a_hub_in_memory_keeps_its_story.Goals as goal

pub returns : goal.returns
returns g c = λ from to steps way. story-led c.stories_join.ensures g.P.FaultPlan.fails g.P.FaultPlan.after from steps to way
