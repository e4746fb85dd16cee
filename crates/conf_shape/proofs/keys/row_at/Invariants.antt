use Rattle.std.proofs.Common.{◌≡◌, drop, map}
use Rattle.conf_shape.specs.Keys.{seen_row}
use Rattle.conf_shape.specs.Sections.{row_at}
use Rattle.conf_shape.proofs.keys.row_at.Given as goal

-- none of those so far has the name
abbrev pub invariant-loop-row : goal.invariant-loop-row
invariant-loop-row l = row_at l.name (map seen_row l.rows) ≡ row_at l.name (map seen_row (drop l.row-index l.rows))
