use Rattle.flow_stats.proofs.Answered.{reads_fault, reads_other, reads_part}
use Rattle.flow_stats.proofs.laws.a_body_is_read_as_it_is_spelled.Goals as goal

pub returns-clause-part : goal.returns-clause-part
returns-clause-part c = λ body part small. reads_part body small part

pub returns-clause-other : goal.returns-clause-other
returns-clause-other c = λ body small. reads_other body small

pub returns-clause-fault : goal.returns-clause-fault
returns-clause-fault c = λ body fault small. reads_fault body small fault
