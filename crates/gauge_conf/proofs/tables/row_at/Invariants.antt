use Rattle.std.proofs.Common.{◌≡◌, drop, map}
use Rattle.gauge_conf.specs.Keys.{seen_row, row_at}
use Rattle.gauge_conf.proofs.tables.row_at.Given as goal

-- none of those so far has the name
abbrev pub invariant-loop-row : goal.invariant-loop-row
invariant-loop-row l = row_at l.name (map seen_row l.rows) ≡ row_at l.name (map seen_row (drop l.row-index l.rows))
