use Rattle.gauge_poll.proofs.FewItems.{same_flow_block, same_port_block}
use Rattle.gauge_poll.proofs.laws.what_waits_gives_the_block_of_all.Goals as goal

pub returns-clause-ports : goal.returns-clause-ports
returns-clause-ports c = λ d xs ys. same_port_block c.what_doesnt_count_may_go.ensures.ports d xs ys

pub returns-clause-flows : goal.returns-clause-flows
returns-clause-flows c = λ d xs ys. same_flow_block c.what_doesnt_count_may_go.ensures.flows d xs ys
