use Rattle.bgp_messages.proofs.MessageLaws.{never_both, one_fault}
use Rattle.bgp_messages.proofs.laws.a_body_has_one_answer.Goals as goal

pub returns-clause-never_both : goal.returns-clause-never_both
returns-clause-never_both c = never_both

pub returns-clause-one_fault : goal.returns-clause-one_fault
returns-clause-one_fault c = one_fault
