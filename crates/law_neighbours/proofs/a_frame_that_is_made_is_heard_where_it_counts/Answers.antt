use Rattle.law_neighbours.proofs.Heard.{advertisement_heard, reply_heard, request_heard, solicitation_heard}
use Rattle.law_neighbours.proofs.a_frame_that_is_made_is_heard_where_it_counts.Goals as goal

pub returns : goal.returns
returns c = record { request = request_heard; reply = reply_heard; solicitation = solicitation_heard; advertisement = advertisement_heard }
