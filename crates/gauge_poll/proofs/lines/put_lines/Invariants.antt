use Rattle.std.proofs.Common.{◌≡◌, ◌++◌, ◌∷◌, [], drop}
use Rattle.std.specs.Fmt.{decimal}
use Rattle.std.specs.List.{flat_map}
use Rattle.gauge_poll.specs.Lines.{line_to}
use Rattle.gauge_poll.proofs.lines.put_lines.Given as goal

-- what is left completes the lines
abbrev pub invariant-loop-db : goal.invariant-loop-db
invariant-loop-db l =
    l.lines ++ flat_map (line_to (l.front ∷ l.counter ∷ decimal l.value ∷ [])) (drop l.db-index l.watcher.dbs)
    ≡ l.fn.lines ++ flat_map (line_to (l.front ∷ l.counter ∷ decimal l.value ∷ [])) l.watcher.dbs
