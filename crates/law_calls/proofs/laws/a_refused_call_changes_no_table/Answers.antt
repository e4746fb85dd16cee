use Rattle.law_calls.proofs.HostLimits.{refused_same}
use Rattle.law_calls.proofs.laws.a_refused_call_changes_no_table.Goals as goal

pub returns : goal.returns
returns c = λ old new call answer made refused. refused_same old call answer new made refused
