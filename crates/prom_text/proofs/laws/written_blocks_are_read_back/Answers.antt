use Rattle.prom_text.specs.Blocks.{flow_block, port_block, state_block}
use Rattle.prom_text.proofs.Apart.{flows_are, ports_are, state_are}
use Rattle.prom_text.proofs.ReadBack.{block_read}
use Rattle.prom_text.proofs.laws.written_blocks_are_read_back.Goals as goal

pub returns-clause-ports : goal.returns-clause-ports
returns-clause-ports c = λ d items fits. block_read (port_block d items) (ports_are d items fits)

pub returns-clause-flows : goal.returns-clause-flows
returns-clause-flows c = λ d flows fits. block_read (flow_block d flows) (flows_are d flows fits)

pub returns-clause-state : goal.returns-clause-state
returns-clause-state c = λ d number up. block_read (state_block d number up) (state_are d number up)
