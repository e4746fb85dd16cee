use Rattle.law_entries.proofs.WholePlan.{plan_whole, cold_whole}
use Rattle.law_entries.proofs.doable.the_controller_gets_whole_packets.Goals as goal

pub returns-clause-plan : goal.returns-clause-plan
returns-clause-plan c = λ conf now d setting. plan_whole conf now d setting

pub returns-clause-cold : goal.returns-clause-cold
returns-clause-cold c = λ conf now d setting. cold_whole conf now d setting
