use Rattle.std.proofs.Common.{false, arith}
use Rattle.of_wire.proofs.Spelled.{match_spelled, match_read}
use Rattle.of_wire.proofs.MatchFaults.{match_tells_first}
use Rattle.of_wire.proofs.matches.get_match_seen_at.Goals as goal

pub returns-clause-spelled : goal.returns-clause-spelled
returns-clause-spelled c = match_spelled false c.args.at c.args.bytes.now c.read_match.result (λ i. omega (arith, c.type_inv.bytes i)) c.read_match.ensures.exact

pub returns-clause-complete : goal.returns-clause-complete
returns-clause-complete c = match_read false c.args.at c.args.bytes.now c.read_match.result c.read_match.ensures.exact

pub returns-clause-first : goal.returns-clause-first
returns-clause-first c = match_tells_first false c.args.at c.args.bytes.now c.read_match.result (λ i. omega (arith, c.type_inv.bytes i)) c.read_match.ensures.exact
