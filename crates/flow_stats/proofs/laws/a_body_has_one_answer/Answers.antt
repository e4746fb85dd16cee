use Rattle.flow_stats.proofs.Answered.{fault_once, no_fault, no_part, one_part, part_or_fault}
use Rattle.flow_stats.proofs.laws.a_body_has_one_answer.Goals as goal

pub returns-clause-one_part : goal.returns-clause-one_part
returns-clause-one_part c = one_part

pub returns-clause-never_both : goal.returns-clause-never_both
returns-clause-never_both c = part_or_fault

pub returns-clause-one_fault : goal.returns-clause-one_fault
returns-clause-one_fault c = fault_once

pub returns-clause-no_part : goal.returns-clause-no_part
returns-clause-no_part c = no_part

pub returns-clause-no_fault : goal.returns-clause-no_fault
returns-clause-no_fault c = no_fault
