use Rattle.std.proofs.Common.{◌≡◌, drop, map}
use Rattle.conf_shape.specs.Keys.{seen_pair}
use Rattle.conf_shape.specs.Values.{spelled_at}
use Rattle.conf_shape.proofs.values.spelled_at.Given as goal

-- the field isn't among the entries so far
abbrev pub invariant-loop-pair : goal.invariant-loop-pair
invariant-loop-pair l = spelled_at (map seen_pair l.spellings) l.name l.pairs ≡ spelled_at (map seen_pair l.spellings) l.name (drop l.pair-index l.pairs)
