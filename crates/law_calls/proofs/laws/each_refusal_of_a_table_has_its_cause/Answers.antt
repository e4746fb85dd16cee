use Rattle.law_calls.proofs.HostCauses.{cause_of}
use Rattle.law_calls.proofs.laws.each_refusal_of_a_table_has_its_cause.Goals as goal

pub returns : goal.returns
returns c = λ old new call answer made. cause_of old call answer new made
