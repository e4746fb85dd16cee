use Rattle.pkt_view.proofs.MadeFrames.{request_is_read, reply_is_read}
use Rattle.pkt_view.proofs.laws.arp_frames_show_who_asks_and_who_answers.Goals as goal

pub returns : goal.returns
returns c = record { request = request_is_read; reply = reply_is_read }
