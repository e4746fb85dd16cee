use Rattle.std.proofs.Common.{◌≡◌, ◌++◌, drop, map}
use Rattle.conf_shape.specs.Keys.{seen_pair, seen_row, match_keys_of}
use Rattle.conf_shape.specs.Values.{fields_by}
use Rattle.conf_shape.proofs.values.fields_of.Given as goal

-- what is left completes the list
abbrev pub invariant-loop-row : goal.invariant-loop-row
invariant-loop-row l =
    l.fields ++ fields_by (map seen_pair l.spellings) (match_keys_of (map seen_row (drop l.row-index l.rows))) l.pairs
    ≡ fields_by (map seen_pair l.spellings) (match_keys_of (map seen_row l.rows)) l.pairs
