use Rattle.bgp_peer.proofs.Pieces.{peer_in_pieces, said_in_pieces}
use Rattle.bgp_peer.proofs.laws.how_bytes_are_cut_changes_nothing.Goals as goal

pub returns-clause-peer : goal.returns-clause-peer
returns-clause-peer c = peer_in_pieces

pub returns-clause-says : goal.returns-clause-says
returns-clause-says c = said_in_pieces
