use Rattle.std.proofs.Common.{◌≡◌, ◌++◌, List, codes, drop}
use Rattle.std.specs.List.{flat_map}
use Rattle.prom_text.specs.Blocks.{Row, metrics, port_metric_names}
use Rattle.prom_text.specs.Samples.{metric_text}
use Rattle.prom_text.specs.Spelled.{AreSpelled}
use Rattle.prom_text.proofs.blocks.put_port_metrics.Given as goal

-- what is left completes the metrics
abbrev pub invariant-loop-place : goal.invariant-loop-place
invariant-loop-place l =
    (told : List Row) → AreSpelled l.rows told
    → l.out ++ flat_map metric_text (metrics (drop l.place port_metric_names) (codes "counter") l.place told) ≡ l.fn.out ++ flat_map metric_text (metrics port_metric_names (codes "counter") 0 told)
