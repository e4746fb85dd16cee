use Rattle.std.proofs.Common.{◌≡◌, ◌++◌, map, drop}
use Rattle.gauge_conf.specs.Raw.{db_of}
use Rattle.gauge_conf.proofs.reading.all_dbs.Given as goal

-- what is left completes the list
abbrev pub invariant-loop-pair : goal.invariant-loop-pair
invariant-loop-pair l = l.made ++ map db_of (drop l.pair-index l.pairs) ≡ map db_of l.pairs
