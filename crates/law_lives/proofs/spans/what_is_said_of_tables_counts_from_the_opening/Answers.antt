use Rattle.std.proofs.Common.{[]}
use Rattle.ctl_world.specs.World.{first}
use Rattle.law_lives.proofs.Since.{story_since}
use Rattle.law_lives.proofs.spans.what_is_said_of_tables_counts_from_the_opening.Goals as goal

pub returns : goal.returns
returns c = λ conf story number. story_since number [] (first conf) story
