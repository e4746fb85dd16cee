use Rattle.cold_start.proofs.Units.{plan_is_units, no_key_in_common}
use Rattle.cold_start.proofs.laws.a_plan_is_that_of_its_units.Goals as goal

pub returns-clause-whole : goal.returns-clause-whole
returns-clause-whole c = λ conf now d setting. plan_is_units conf now d setting

pub returns-clause-apart : goal.returns-clause-apart
returns-clause-apart c = λ conf now d setting u w apart e f ce cf. no_key_in_common conf now d setting u w apart e f ce cf
