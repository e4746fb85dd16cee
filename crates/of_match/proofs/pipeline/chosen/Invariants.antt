use Rattle.std.proofs.Common.{◌≡◌}
use Rattle.std.specs.Option.{option_copied}
use Rattle.of_match.specs.Pipeline.{chosen}
use Rattle.of_match.proofs.Runs.{better}
use Rattle.of_match.proofs.pipeline.chosen.Given as goal

-- the best so far, or what is chosen among the entries that are left
abbrev pub invariant-loop-entry : goal.invariant-loop-entry
invariant-loop-entry l = better (option_copied l.best) (chosen l.entry-iterator l.table l.port l.packet) ≡ chosen l.tables l.table l.port l.packet
