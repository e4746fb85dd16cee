use Rattle.pkt_view.proofs.EchoDue.{request_is_answered}
use Rattle.pkt_view.proofs.laws.an_echo_request_gets_its_reply.Goals as goal

pub returns : goal.returns
returns c = request_is_answered
