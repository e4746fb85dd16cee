use Rattle.std.proofs.Common.{◌≡◌, ◌++◌, drop}
use Rattle.std.specs.List.{flat_map}
use Rattle.gauge_poll.specs.Lines.{block_to}
use Rattle.gauge_poll.proofs.blocks.put_blocks.Given as goal

-- what is left completes the blocks
abbrev pub invariant-loop-db : goal.invariant-loop-db
invariant-loop-db l = l.lines ++ flat_map (block_to l.block) (drop l.db-index l.watcher.dbs) ≡ l.fn.lines ++ flat_map (block_to l.block) l.watcher.dbs
