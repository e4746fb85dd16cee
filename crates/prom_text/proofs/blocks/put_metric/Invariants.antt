use Rattle.std.proofs.Common.{◌≡◌, ◌++◌, take}
use Rattle.std.specs.List.{flat_map}
use Rattle.prom_text.specs.Samples.{type_line}
use Rattle.prom_text.proofs.RowLaws.{line_of}
use Rattle.prom_text.proofs.blocks.put_metric.Given as goal

abbrev pub invariant-loop-row : goal.invariant-loop-row
invariant-loop-row l = l.out ≡ l.fn.out ++ (type_line l.name l.kind ++ flat_map (line_of l.name l.place) (take l.row-index l.rows))
