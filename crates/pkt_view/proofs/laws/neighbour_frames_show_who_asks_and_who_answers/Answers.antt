use Rattle.pkt_view.proofs.MadeFrames.{solicitation_is_read, advertisement_is_read}
use Rattle.pkt_view.proofs.laws.neighbour_frames_show_who_asks_and_who_answers.Goals as goal

pub returns : goal.returns
returns c = record { solicitation = solicitation_is_read; advertisement = advertisement_is_read }
