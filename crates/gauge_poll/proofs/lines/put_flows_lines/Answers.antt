use Rattle.gauge_poll.specs.Lines.{flow_lines}
use Rattle.gauge_poll.proofs.Columns.{more_flat}
use Rattle.gauge_poll.proofs.lines.put_flows_lines.Goals as goal

pub loop-flow-preserved : goal.loop-flow-preserved
loop-flow-preserved c =
    more_flat (flow_lines c.args.watcher.now c.args.moment c.args.dp.now) _ c.loop-flow.lines c.put_flow_lines.new.lines c.args.flows.now c.loop-flow.flow-index c.flow-item.result
    c.loop-flow-test.true c.flow-item.is c.loop-flow.invariant c.in_ok-put_flow_lines.ensures
