use Rattle.law_entries.proofs.DoablePlan.{plan_done, cold_done}
use Rattle.law_entries.proofs.doable.each_entry_can_be_done.Goals as goal

pub returns-clause-plan : goal.returns-clause-plan
returns-clause-plan c = λ conf now d setting. plan_done conf now d setting

pub returns-clause-cold : goal.returns-clause-cold
returns-clause-cold c = λ conf now d setting. cold_done conf now d setting
