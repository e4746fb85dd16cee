use Rattle.std.proofs.Common.{◌≡◌, take, vec_len}
use Rattle.stack_paths.specs.Hops.{AreFirst}
use Rattle.stack_paths.proofs.choice.next_hops.Given as goal

abbrev pub invariant-loop-hop : goal.invariant-loop-hop
invariant-loop-hop l = record {
  len : vec_len l.best ≡ l.count;
  first : AreFirst (take l.hop-index l.hops) l.distances l.best.items;
}
