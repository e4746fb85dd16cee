use Rattle.std.proofs.Common.{◌≡◌, drop, map}
use Rattle.conf_shape.specs.Keys.{seen_row}
use Rattle.conf_shape.specs.Sections.{map_keys}
use Rattle.conf_shape.specs.Faults.{first, missing}
use Rattle.conf_shape.proofs.faults.missing.Given as goal

-- none of those so far is missing
abbrev pub invariant-loop-row : goal.invariant-loop-row
invariant-loop-row l = first (missing l.number (map_keys l.pairs) (map seen_row l.rows)) ≡ first (missing l.number (map_keys l.pairs) (map seen_row (drop l.row-index l.rows)))
