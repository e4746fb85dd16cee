use Rattle.of_wire.proofs.MatchOrder.{matches_lex}
use Rattle.of_wire.proofs.order_laws.matches_compare_as_their_bytes.Goals as goal

pub returns : goal.returns
returns c = matches_lex
