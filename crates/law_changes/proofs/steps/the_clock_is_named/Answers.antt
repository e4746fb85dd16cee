use Rattle.law_changes.proofs.Turned.{clock_named}
use Rattle.law_changes.proofs.steps.the_clock_is_named.Goals as goal

pub returns : goal.returns
returns c = clock_named
