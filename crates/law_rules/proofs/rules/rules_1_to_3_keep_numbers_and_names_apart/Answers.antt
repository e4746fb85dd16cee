use Rattle.law_rules.proofs.Apart.{vlans_differ, differing_vlans, dps_differ, differing_dps, ports_differ, differing_ports}
use Rattle.law_rules.proofs.rules.rules_1_to_3_keep_numbers_and_names_apart.Goals as goal

pub returns-clause-vlans : goal.returns-clause-vlans
returns-clause-vlans c = λ o. (vlans_differ o, differing_vlans o)

pub returns-clause-datapaths : goal.returns-clause-datapaths
returns-clause-datapaths c = λ o. (dps_differ o, differing_dps o)

pub returns-clause-interfaces : goal.returns-clause-interfaces
returns-clause-interfaces c = λ o. (ports_differ o, differing_ports o)
