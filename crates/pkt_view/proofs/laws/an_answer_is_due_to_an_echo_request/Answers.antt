use Rattle.pkt_view.proofs.Echo6Due.{due_to_requests6}
use Rattle.pkt_view.proofs.EchoDue.{due_to_requests, due_to_no_other}
use Rattle.pkt_view.proofs.laws.an_answer_is_due_to_an_echo_request.Goals as goal

pub returns : goal.returns
returns c = record { ipv4 = due_to_requests; ipv6 = due_to_requests6; no_other = due_to_no_other }
