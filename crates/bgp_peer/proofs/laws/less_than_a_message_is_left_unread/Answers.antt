use Rattle.bgp_peer.proofs.Waiting.{waits_behind, few_behind}
use Rattle.bgp_peer.proofs.laws.less_than_a_message_is_left_unread.Goals as goal

pub returns-clause-waits : goal.returns-clause-waits
returns-clause-waits c = waits_behind

pub returns-clause-few : goal.returns-clause-few
returns-clause-few c = few_behind
