use Rattle.prom_text.proofs.Again.{flows_again, ports_again}
use Rattle.prom_text.proofs.laws.what_doesnt_count_may_go.Goals as goal

pub returns-clause-ports : goal.returns-clause-ports
returns-clause-ports c = ports_again

pub returns-clause-flows : goal.returns-clause-flows
returns-clause-flows c = flows_again
