use Rattle.std.proofs.Common.{◌≡◌, ◌+◌, ◌≤◌, vec_len}
use Rattle.std.specs.Prelude.{count_by, is_none}
use Rattle.stack_paths.proofs.Levels.{Found}
use Rattle.stack_paths.proofs.search.distances.Given as goal

abbrev pub invariant-levels : goal.invariant-levels
invariant-levels l = record {
  len : vec_len l.marks ≡ l.count;
  found : Found l.hops l.target l.level l.marks.items;
  levels_left : l.level + count_by is_none l.marks.items ≤ 64;
}

abbrev pub decreases-levels : goal.decreases-levels
decreases-levels l = count_by is_none l.marks.items
