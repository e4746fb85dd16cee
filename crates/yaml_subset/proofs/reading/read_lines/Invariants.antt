use Rattle.std.proofs.Common.{◌≡◌, ◌+◌, length, map}
use Rattle.yaml_subset.specs.declared.blocks.State.TheVariants.{Start}
use Rattle.yaml_subset.specs.Reading.{lines_from}
use Rattle.yaml_subset.proofs.reading.read_lines.Given as goal

abbrev pub invariant-loop-rest : goal.invariant-loop-rest
invariant-loop-rest l = record {
  counted : l.line + length l.rest ≡ length l.lines;
  so_far : lines_from l.line l.state (map (λ x. x.now) l.rest) ≡ lines_from 0 Start (map (λ x. x.now) l.lines);
}

abbrev pub decreases-loop-rest : goal.decreases-loop-rest
decreases-loop-rest l = length l.rest
