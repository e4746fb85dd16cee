use Rattle.std.proofs.Common.{◌≡◌, vec_len}
use Rattle.stack_paths.specs.Hops.{AllWays}
use Rattle.stack_paths.proofs.ways.all_ways.Given as goal

abbrev pub invariant-loop-target : goal.invariant-loop-target
invariant-loop-target l = (vec_len l.ways ≡ l.target) × AllWays l.hops l.count l.ways.items
