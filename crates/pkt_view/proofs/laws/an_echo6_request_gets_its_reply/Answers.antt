use Rattle.pkt_view.proofs.Echo6Due.{request6_is_answered}
use Rattle.pkt_view.proofs.laws.an_echo6_request_gets_its_reply.Goals as goal

pub returns : goal.returns
returns c = request6_is_answered
