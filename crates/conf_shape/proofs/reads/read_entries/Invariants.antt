use Rattle.std.proofs.Common.{◌≡◌, ◌++◌, drop, map}
use Rattle.conf_shape.proofs.reads.read_entries.Given as goal

-- what is left completes the list
abbrev pub invariant-loop-pair : goal.invariant-loop-pair
invariant-loop-pair g l = l.made ++ map g.T.ReadEntry.given_by (drop l.pair-index l.pairs) ≡ map g.T.ReadEntry.given_by l.pairs
