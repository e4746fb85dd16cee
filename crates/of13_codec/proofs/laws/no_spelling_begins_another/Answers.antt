use Rattle.of13_codec.proofs.Spelled.{no_spelling_goes_on}
use Rattle.of13_codec.proofs.laws.no_spelling_begins_another.Goals as goal

pub returns : goal.returns
returns c = no_spelling_goes_on
