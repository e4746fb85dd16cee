use Rattle.of_wire.proofs.Spelled.{no_match_goes_on}
use Rattle.of_wire.proofs.laws.no_match_begins_another.Goals as goal

pub returns : goal.returns
returns c = no_match_goes_on
