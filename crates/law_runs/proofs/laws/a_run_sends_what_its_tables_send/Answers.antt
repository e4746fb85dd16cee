use Rattle.law_runs.specs.Runs.{missed, stopped, went, reordered}
use Rattle.law_runs.proofs.laws.a_run_sends_what_its_tables_send.Goals as goal

pub returns-clause-missed : goal.returns-clause-missed
returns-clause-missed c = λ tables port t p m. missed tables port t p m

pub returns-clause-stopped : goal.returns-clause-stopped
returns-clause-stopped c = λ tables port t p sent d. stopped tables port t p sent d

pub returns-clause-went : goal.returns-clause-went
returns-clause-went c = λ tables port t p sent u q rest d x. went tables port t p sent u q rest d x

pub returns-clause-reordered : goal.returns-clause-reordered
returns-clause-reordered c = λ tables port t p outs others s x. reordered tables port t p outs others s x
