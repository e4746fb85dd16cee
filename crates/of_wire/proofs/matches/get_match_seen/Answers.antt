use Rattle.std.proofs.Common.{false}
use Rattle.of_wire.specs.Faults.{FaultInMatch}
use Rattle.of_wire.proofs.Told.{told_from_start}
use Rattle.of_wire.proofs.matches.get_match_seen.Goals as goal

pub returns-clause-first : goal.returns-clause-first
returns-clause-first c = told_from_start (FaultInMatch false c.args.bytes.now) c.get_match_seen_at.result c.get_match_seen_at.ensures.first
