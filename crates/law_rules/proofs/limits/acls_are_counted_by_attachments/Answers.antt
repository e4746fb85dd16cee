use Rattle.law_rules.proofs.AclLimits.{entry_pairs, output_triples}
use Rattle.law_rules.proofs.limits.acls_are_counted_by_attachments.Goals as goal

pub returns-clause-entries : goal.returns-clause-entries
returns-clause-entries c = λ conf told d i. entry_pairs conf told d i

pub returns-clause-outputs : goal.returns-clause-outputs
returns-clause-outputs c = λ conf told d i. output_triples conf told d i
