use Rattle.std.proofs.Common.{◌≡◌, drop, map}
use Rattle.std.specs.List.{list_any}
use Rattle.conf_shape.specs.Keys.{seen_pair}
use Rattle.conf_shape.specs.Sections.{map_keys, spells}
use Rattle.conf_shape.proofs.keys.is_spelled.Given as goal

-- none of those so far is the key
abbrev pub invariant-loop-pair : goal.invariant-loop-pair
invariant-loop-pair l = list_any (spells (map seen_pair l.spellings) l.name) (map_keys l.earlier) ≡ list_any (spells (map seen_pair l.spellings) l.name) (map_keys (drop l.pair-index l.earlier))
