use Rattle.fg_outside.proofs.StoryLemmas.{All-Leads}
use Rattle.fg_outside.specs.NoHub.{IsIdle}
use Rattle.fg_outside.proofs.laws.with_no_hub_nothing_happens.Goals as goal

pub returns : goal.returns
returns c = λ from to steps way. All-Leads _ IsIdle (λ _ _ _ idle. idle) from steps to way
