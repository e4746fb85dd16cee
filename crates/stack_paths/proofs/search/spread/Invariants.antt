use Rattle.std.proofs.Common.{◌≡◌, ◌+◌, ◌≤◌, take, false}
use Rattle.std.specs.Prelude.{count_by, is_none, if◌then◌else◌}
use Rattle.stack_paths.specs.Hops.{Spreads}
use Rattle.stack_paths.proofs.search.spread.Given as goal

abbrev pub invariant-loop-hop : goal.invariant-loop-hop
invariant-loop-hop l = record {
  spreads : Spreads (take l.hop-index l.hops) l.level l.initial.marks l.marks;
  falls : count_by is_none l.marks + (if l.is_new then 1 else 0) ≤ count_by is_none l.initial.marks;
  unchanged : l.is_new ≡ false → l.marks ≡ l.initial.marks;
}
