use Rattle.law_served.proofs.Speaking.{spoken_records}
use Rattle.law_served.proofs.flights.records_say_what_was_said.Goals as goal

pub returns : goal.returns
returns c = spoken_records
