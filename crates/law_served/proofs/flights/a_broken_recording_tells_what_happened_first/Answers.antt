use Rattle.law_served.proofs.Replaying.{broken_story}
use Rattle.law_served.proofs.flights.a_broken_recording_tells_what_happened_first.Goals as goal

pub returns : goal.returns
returns c = broken_story
