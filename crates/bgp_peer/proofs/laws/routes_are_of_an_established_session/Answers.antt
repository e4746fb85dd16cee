use Rattle.bgp_peer.proofs.Behind.{established_alone, none_when_closed}
use Rattle.bgp_peer.proofs.laws.routes_are_of_an_established_session.Goals as goal

pub returns-clause-established : goal.returns-clause-established
returns-clause-established c = established_alone

pub returns-clause-closed : goal.returns-clause-closed
returns-clause-closed c = none_when_closed
