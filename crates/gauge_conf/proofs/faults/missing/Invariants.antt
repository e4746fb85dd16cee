use Rattle.std.proofs.Common.{◌≡◌, drop, map}
use Rattle.gauge_conf.specs.Keys.{seen_row}
use Rattle.conf_rules.specs.Places.{first}
use Rattle.gauge_conf.specs.Faults.{missing}
use Rattle.gauge_conf.proofs.faults.missing.Given as goal

-- none of those so far is missing
abbrev pub invariant-loop-row : goal.invariant-loop-row
invariant-loop-row l = first (missing (map seen_row (drop l.row-index l.rows)) l.site l.pairs) ≡ first (missing (map seen_row l.rows) l.site l.pairs)
