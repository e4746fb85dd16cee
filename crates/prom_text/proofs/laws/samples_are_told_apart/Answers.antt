use Rattle.prom_text.proofs.Apart.{flows_apart, ports_apart}
use Rattle.prom_text.proofs.laws.samples_are_told_apart.Goals as goal

pub returns-clause-ports : goal.returns-clause-ports
returns-clause-ports c = ports_apart

pub returns-clause-flows : goal.returns-clause-flows
returns-clause-flows c = flows_apart
