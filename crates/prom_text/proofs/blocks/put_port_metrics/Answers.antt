use Rattle.std.proofs.Common.{codes, arith}
use Rattle.prom_text.specs.Blocks.{port_metric_names}
use Rattle.prom_text.proofs.RowLaws.{metrics_end, metrics_more, twelve_names}
use Rattle.prom_text.proofs.blocks.put_port_metrics.Goals as goal

pub loop-place-preserved : goal.loop-place-preserved
loop-place-preserved c = λ told are.
    metrics_more _ c.loop-place.out c.put_metric.new.out port_metric_names (codes "counter") c.port_metric_name.result.now c.loop-place.place told c.port_metric_name.ensures
    (c.loop-place.invariant told are) (c.in_ok-put_metric.ensures told are)

pub returns : goal.returns
returns c = λ told are.
    metrics_end _ c.loop-place.out port_metric_names (codes "counter") c.loop-place.place told (omega (arith, twelve_names, c.loop-place-test.false)) (c.loop-place.invariant told are)
