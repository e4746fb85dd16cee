use Rattle.of_match.proofs.Settling.{settles_once}
use Rattle.of_match.proofs.laws.commands_of_distinct_keys_commute.Goals as goal

pub returns : goal.returns
returns c = settles_once
