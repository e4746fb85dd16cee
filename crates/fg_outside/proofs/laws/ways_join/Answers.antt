use Rattle.fg_outside.proofs.StoryLemmas.{Leads-append}
use Rattle.fg_outside.proofs.laws.ways_join.Goals as goal

pub returns : goal.returns
returns g c = λ from mid to first second one other. Leads-append g.H.Hub.may from mid first one second to other
